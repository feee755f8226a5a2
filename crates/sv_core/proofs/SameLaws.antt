-- Further entries of other sites, and moves, change nothing at a site.
use Rattle.std.proofs.Common.{◌≡◌, ℕ, suc, ◌==◌, ◌&&◌, cond, if◌then◌else◌, false, [], ◌∷◌, ◌++◌, Some, None, refl, sym, ap, ◌∙◌}
use Rattle.std.specs.List.{filter}
use Rattle.std.proofs.lemmas.List.Elements.{All-head, All-tail}
use Rattle.sv_value.specs.Cuts.{origin}
use Rattle.sv_effect.specs.Cut.{Cut, Lies}
use Rattle.sv_effect.specs.TablesOfCut.{tables_of, all_to}
use Rattle.sv_core.specs.declared.entries.Entry.{Entry}
use Rattle.sv_core.specs.declared.entries.Entry.TheVariants.{Answer, Apply, Move}
use Rattle.sv_core.specs.Clock.{latest_of, latest_in}
use Rattle.sv_core.specs.Document.{Document}
use Rattle.sv_core.specs.History.{History, brings, cut_of, published, tables_at}
use Rattle.sv_core.specs.Laws.{IsLawful}
use Rattle.sv_core.specs.Packets.{packets_to, is_at}
use Rattle.sv_core.specs.WorldLaws.{SameAt, OthersLeave}
use Rattle.sv_core.proofs.BirthLaws.{lawful_before}
use Rattle.sv_core.proofs.HistoryLaws.{held_since, tables_since, within}

-- an entry that isn't at the site brings it nothing
brings_none : (e : Entry) (s o : ℕ) → is_at s e ≡ false → brings e s o ≡ false
brings_none (Answer session index request site at reply label None) s o off = refl
brings_none (Answer session index request site at reply label (Some packet)) s o off = ap (λ b. b && o == origin packet) off
brings_none (Apply site packet) s o off = ap (λ b. b && o == origin packet) off
brings_none (Move session site) s o off = refl

cut_stays : (e : Entry) (h : History) (s : ℕ) → is_at s e ≡ false → cut_of (e ∷ h) s ≡ cut_of h s
cut_stays e h s off = λ i o. if brings_none e s o off i then suc (cut_of h s o) else cut_of h s o

packets_stay : (e : Entry) (h : History) (s : ℕ) → is_at s e ≡ false → packets_to (e ∷ h) s ≡ packets_to h s
packets_stay (Answer session index request site at reply label None) h s off = refl
packets_stay (Answer session index request site at reply label (Some packet)) h s off =
    ap (λ b. if b then packets_to h s ++ packet ∷ [] else packets_to h s) off
packets_stay (Apply site packet) h s off = ap (λ b. if b then packets_to h s ++ packet ∷ [] else packets_to h s) off
packets_stay (Move session site) h s off = refl

-- the greatest time of a cut doesn't change when more is published
pub latest_since : (doc : Document) (e : Entry) (h : History) (c : Cut) → Lies (published doc h) c
    → latest_in (published doc (e ∷ h)) c ≡ latest_in (published doc h) c
latest_since doc e h c lies = sym (λ i. latest_of (all_to (λ o. held_since doc 1 (e ∷ h) c lies o i) 9))

tables_stay : (doc : Document) (e : Entry) (h : History) (s : ℕ) → Lies (published doc h) (cut_of h s) → is_at s e ≡ false
    → tables_at doc (e ∷ h) s ≡ tables_at doc h s
tables_stay doc e h s lies off =
    (λ i. tables_of doc.schema doc.init (published doc (e ∷ h)) (cut_stays e h s off i)) ∙ sym (tables_since doc 1 (e ∷ h) (cut_of h s) lies)

latest_stays : (doc : Document) (e : Entry) (h : History) (s : ℕ) → Lies (published doc h) (cut_of h s) → is_at s e ≡ false
    → latest_in (published doc (e ∷ h)) (cut_of (e ∷ h) s) ≡ latest_in (published doc h) (cut_of h s)
latest_stays doc e h s lies off = (λ i. latest_in (published doc (e ∷ h)) (cut_stays e h s off i)) ∙ latest_since doc e h (cut_of h s) lies

-- one entry more
one_leaves : (doc : Document) (e : Entry) (g h : History) (s : ℕ) → IsLawful doc (e ∷ g) → is_at s e ≡ false → SameAt doc h g s → SameAt doc h (e ∷ g) s
one_leaves doc e g h s lawful off same = record {
  entries = ap (λ b. cond b (e ∷ filter (is_at s) g) (filter (is_at s) g)) off ∙ same.entries;
  packets = packets_stay e g s off ∙ same.packets;
  cut = cut_stays e g s off ∙ same.cut;
  tables = tables_stay doc e g s (within doc g lawful.legal.1 s) off ∙ same.tables;
  latest = latest_stays doc e g s (within doc g lawful.legal.1 s) off ∙ same.latest;
}

pub others_leave : OthersLeave
others_leave doc [] h s lawful off = record { entries = refl; packets = refl; cut = refl; tables = refl; latest = refl }
others_leave doc (e ∷ more) h s lawful off =
    one_leaves doc e (more ++ h) h s lawful (All-head (λ x. is_at s x ≡ false) e more off)
    (others_leave doc more h s (lawful_before doc e (more ++ h) lawful) (All-tail (λ x. is_at s x ≡ false) e more off))
