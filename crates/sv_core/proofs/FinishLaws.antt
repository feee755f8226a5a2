-- All sites catch up, one after the other: each then has all that was published.
use Rattle.std.proofs.Common.{◌≡◌, ◌⊎◌, inl, inr, ℕ, suc, ◌+◌, ◌≤◌, ◌&&◌, ◌==◌, if◌then◌else◌, List, [], ◌∷◌, length, refl, sym, ap, ◌∙◌, arith}
use Rattle.std.proofs.lemmas.Bool.{cases_eq}
use Rattle.sv_value.specs.declared.packets.Packet.{Packet}
use Rattle.sv_value.specs.Cuts.{origin}
use Rattle.sv_app.proofs.TestLaws.{other_test}
use Rattle.sv_core.specs.declared.entries.Entry.TheVariants.{Apply}
use Rattle.sv_core.specs.Document.{Document}
use Rattle.sv_core.specs.Events.{IsCaught}
use Rattle.sv_core.specs.History.{History, cut_of, published}
use Rattle.sv_core.specs.Mediums.{WorldView, doc_of, with_history}
use Rattle.sv_core.specs.Packets.{caught_up, finished, lacked, with_applied}

published_same : (doc : Document) (s : ℕ) (packets : List Packet) (h : History) (o : ℕ) → published doc (with_applied s packets h) o ≡ published doc h o
published_same doc s [] h o = refl
published_same doc s (packet ∷ packets) h o = published_same doc s packets (Apply s packet ∷ h) o

cut_same : (s t : ℕ) (packets : List Packet) (h : History) (o : ℕ) → (t ≡ s → ⊥) → cut_of (with_applied s packets h) t o ≡ cut_of h t o
cut_same s t [] h o apart = refl
cut_same s t (packet ∷ packets) h o apart =
    cut_same s t packets (Apply s packet ∷ h) o apart ∙ ap (λ b. if b && o == origin packet then suc (cut_of h t o) else cut_of h t o) (other_test t s apart)

longer : (s : ℕ) (packets : List Packet) (h : History) → length h ≤ length (with_applied s packets h)
longer s [] h = omega arith
longer s (packet ∷ packets) h = let ih : length (Apply s packet ∷ h) ≤ length (with_applied s packets (Apply s packet ∷ h)) = longer s packets (Apply s packet ∷ h) in omega (arith, ih)

-- when so many sites have caught up
pub record Finishing (start w : WorldView) (place : ℕ) : Type 0 where
  pub world : w ≡ record { medium = with_history start.medium w.medium.history; inboxes = start.inboxes }
  pub done : w.medium.history ≡ finished place start.medium.history
  pub long : length start.medium.history ≤ length w.medium.history
  pub whole : (site o : ℕ) → 1 ≤ site → site ≤ place → cut_of w.medium.history site o ≡ length (published (doc_of w.medium) w.medium.history o)

pub finishing_starts : (w : WorldView) → Finishing w w 0
finishing_starts w = record { world = refl; done = refl; long = omega arith; whole = λ site o one most. absurd (omega (arith, one, most)) }

pub finishing_more : (start w after : WorldView) (place site count : ℕ) → Finishing start w place → site ≡ place + 1 → IsCaught w.medium.history site count after.medium.history
    → after ≡ record { medium = with_history w.medium after.medium.history; inboxes = w.inboxes }
    → ((o : ℕ) → cut_of after.medium.history site o ≡ length (published (doc_of after.medium) after.medium.history o)) → Finishing start after (place + 1)
finishing_more start w after place site count f is caught same here = record {
  world = same ∙ ap (λ x. record { medium = with_history x.medium after.medium.history; inboxes = x.inboxes }) f.world;
  done = caught.all ∙ (λ i. caught_up (f.done i) (is_next i)) ∙ ap (λ n. finished n start.medium.history) next;
  long = let a : length w.medium.history ≤ length (caught_up w.medium.history site) = longer site (lacked w.medium.history site) w.medium.history in
      let b : length after.medium.history ≡ length (caught_up w.medium.history site) = ap length caught.all in omega (arith, a, b, f.long);
  whole = λ s o one most. by s o one most (cases_eq s site);
}
  where
    next : suc place ≡ place + 1
    next = omega arith

    is_next : site ≡ suc place
    is_next = omega (arith, is)

    doc_same : doc_of after.medium ≡ doc_of w.medium
    doc_same = ap (λ x. doc_of x.medium) same

    by : (s o : ℕ) → 1 ≤ s → s ≤ place + 1 → (s ≡ site) ⊎ (s ≡ site → ⊥) → cut_of after.medium.history s o ≡ length (published (doc_of after.medium) after.medium.history o)
    by s o one most (inl e) = ap (λ t. cut_of after.medium.history t o) e ∙ here o
    by s o one most (inr apart) =
        ap (λ h. cut_of h s o) caught.all ∙ cut_same site s (lacked w.medium.history site) w.medium.history o apart
        ∙ f.whole s o one (omega (arith, most, apart, is)) ∙ ap length (sym (published_same (doc_of w.medium) site (lacked w.medium.history site) w.medium.history o))
        ∙ (λ i. length (published (sym doc_same i) (sym caught.all i) o))
