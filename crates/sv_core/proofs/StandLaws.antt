-- The state of a site stands for a longer history: where an entry brings it an operation, and where it brings it nothing.
use Rattle.std.proofs.Common.{◌≡◌, ℕ, suc, ◌+◌, ◌==◌, ◌&&◌, if◌then◌else◌, false, [], ◌∷◌, ◌++◌, All, length, Some, None, slice_get, refl, sym, ap, subst, ◌∙◌, arith}
use Rattle.std.specs.Prelude.{max}
use Rattle.std.proofs.lemmas.List.{length_push}
use Rattle.std.proofs.lemmas.List.Elements.{All-cons, All-head, All-tail}
use Rattle.sv_value.specs.declared.packets.Packet.{Packet}
use Rattle.sv_value.specs.Cuts.{more, number, origin}
use Rattle.sv_app.specs.declared.requests.Request.{Request}
use Rattle.sv_app.specs.Schema.{schema_of}
use Rattle.sv_app.proofs.TestLaws.{same_test}
use Rattle.sv_effect.specs.declared.ops.Op.{Op}
use Rattle.sv_effect.specs.Applied.{applied, changes_of}
use Rattle.sv_effect.specs.BareTables.{how_many}
use Rattle.sv_effect.specs.Takes.{FindsRows, KeepsBounds}
use Rattle.sv_threat.specs.declared.label.Label.{Label}
use Rattle.sv_core.specs.declared.entries.Entry.{Entry}
use Rattle.sv_core.specs.declared.entries.Entry.TheVariants.{Answer, Apply}
use Rattle.sv_core.specs.declared.entries.Reply.{Reply}
use Rattle.sv_core.specs.declared.sites.SiteState.{SiteState}
use Rattle.sv_core.specs.Clock.{latest_in}
use Rattle.sv_core.specs.Counts.{AreShort}
use Rattle.sv_core.specs.Document.{Document, document_of}
use Rattle.sv_core.specs.History.{History, brings, cut_of, published, tables_at}
use Rattle.sv_core.specs.Laws.{IsLawful}
use Rattle.sv_core.specs.Legal.{IsApply, Legal}
use Rattle.sv_core.specs.Mediums.{MediumView, doc_of, with_entry}
use Rattle.sv_core.specs.Packets.{packets_to, is_at}
use Rattle.sv_core.specs.Sound.{IsSite}
use Rattle.sv_core.specs.Standing.{CanBring, HasFirst, IsBrought, Leaves, Stands}
use Rattle.sv_core.specs.WorldLaws.{Brought, IsFew, SameAt}
use Rattle.sv_core.proofs.BirthLaws.{lawful_before, next_is}
use Rattle.sv_core.proofs.HistoryLaws.{within}
use Rattle.sv_core.proofs.RoomLaws.{all_few}
use Rattle.sv_core.proofs.SameLaws.{others_leave}
use Rattle.sv_core.proofs.SiteLaws.{came_few, has_first_more}
use Rattle.sv_core.proofs.TakeLaws.{brought_is_taken}

-- an entry brings the site this packet
pub record Comes (e : Entry) (h : History) (s : ℕ) (packet : Packet) : Type 0 where
  pub origins : (o : ℕ) → brings e s o ≡ (o == origin packet)
  pub last : packets_to (e ∷ h) s ≡ packets_to h s ++ packet ∷ []

pub comes_applied : (h : History) (s : ℕ) (packet : Packet) → Comes (Apply s packet) h s packet
comes_applied h s packet = record {
  origins = λ o. ap (λ b. b && o == origin packet) (same_test s s refl);
  last = ap (λ b. if b then packets_to h s ++ packet ∷ [] else packets_to h s) (same_test s s refl);
}

pub comes_answered : (h : History) (session index : ℕ) (request : Request) (s at : ℕ) (reply : Reply) (label : Label) (packet : Packet)
    → Comes (Answer session index request s at reply label (Some packet)) h s packet
comes_answered h session index request s at reply label packet = record {
  origins = λ o. ap (λ b. b && o == origin packet) (same_test s s refl);
  last = ap (λ b. if b then packets_to h s ++ packet ∷ [] else packets_to h s) (same_test s s refl);
}

pub cut_comes : (e : Entry) (h : History) (s : ℕ) (packet : Packet) → Comes e h s packet → (o : ℕ) → cut_of (e ∷ h) s o ≡ more (cut_of h s) (origin packet) o
cut_comes e h s packet c o = ap (λ b. if b then suc (cut_of h s o) else cut_of h s o) (c.origins o)

brought : (doc : Document) (e : Entry) (h : History) (s : ℕ) (packet : Packet) (op : Op) → IsLawful doc (e ∷ h) → AreShort doc (published doc (e ∷ h)) → Comes e h s packet
    → slice_get (published doc (e ∷ h) (origin packet)) (cut_of h s (origin packet)) ≡ Some op → Brought doc e h s (origin packet) op
brought doc e h s packet op lawful short c get =
    brought_is_taken doc e h s (origin packet) op lawful short (c.origins (origin packet) ∙ same_test (origin packet) (origin packet) refl) get

-- a site that is brought an operation can take it
pub can_bring : (doc : Document) (e : Entry) (h : History) (packet : Packet) (op : Op) (state : SiteState) → IsLawful doc (e ∷ h) → AreShort doc (published doc (e ∷ h)) → Stands doc h state
    → Comes e h state.site packet → slice_get (published doc (e ∷ h) (origin packet)) (cut_of h state.site (origin packet)) ≡ Some op → CanBring doc.schema packet op state
can_bring doc e h packet op state lawful short was c get = record {
  few = omega (arith, was.cut (origin packet), within doc h lawful.legal.1 state.site (origin packet), few.lists (origin packet), few.packets, few.asked, lawful.sound.asks);
  space = omega (arith, ap length was.past, longer, came_few doc (e ∷ h) state.site lawful, fewer.packets, fewer.asked, was.space);
  rows = was.fit;
  fits = b.takes.fits;
  found = subst (FindsRows doc.schema (changes_of op)) (sym was.tables) b.takes.found;
  bounds = subst (KeepsBounds doc.schema (changes_of op)) (sym was.tables) b.takes.counts;
  room = omega (arith, b.takes.room, ap how_many was.tables, was.room);
}
  where
    few : IsFew doc h
    few = all_few doc h (lawful_before doc e h lawful)

    fewer : IsFew doc (e ∷ h)
    fewer = all_few doc (e ∷ h) lawful

    longer : length (packets_to (e ∷ h) state.site) ≡ length (packets_to h state.site) + 1
    longer = ap length c.last ∙ length_push (packets_to h state.site) packet

    b : Brought doc e h state.site (origin packet) op
    b = brought doc e h state.site packet op lawful short c get

-- and then stands for the longer history
pub stands_brought : (doc : Document) (e : Entry) (h : History) (packet : Packet) (op : Op) (before after : SiteState) → IsLawful doc (e ∷ h) → AreShort doc (published doc (e ∷ h))
    → Stands doc h before → Comes e h before.site packet → slice_get (published doc (e ∷ h) (origin packet)) (cut_of h before.site (origin packet)) ≡ Some op
    → IsBrought doc.schema packet op before after → Leaves doc (e ∷ h) before after
stands_brought doc e h packet op before after lawful short was c get i = record {
  stands = record {
    lawful = lawful;
    made = ap (λ d. document_of d.value) i.same_doc ∙ was.made;
    there = subst (IsSite doc) (sym i.site) was.there;
    past = i.past ∙ ap (λ xs. xs ++ packet ∷ []) was.past ∙ sym c.last ∙ ap (packets_to (e ∷ h)) (sym i.site);
    tables = i.tables ∙ ap (applied doc.schema op) was.tables ∙ sym b.tables ∙ ap (tables_at doc (e ∷ h)) (sym i.site);
    fit = i.fit;
    cut = λ o. i.cut o ∙ (λ j. more (λ x. was.cut x j) (origin packet) o) ∙ sym (cut_comes e h before.site packet c o) ∙ ap (λ s. cut_of (e ∷ h) s o) (sym i.site);
    latest = i.latest ∙ ap (λ n. max n op.time) was.latest ∙ sym b.latest ∙ ap (λ s. latest_in (published doc (e ∷ h)) (cut_of (e ∷ h) s)) (sym i.site);
    room = omega (arith, was.room, i.room);
    caught = subst (λ s. HasFirst (e ∷ h) s after.caught) (sym i.site) (subst (HasFirst (e ∷ h) before.site) (sym i.caught) (has_first_more doc e h before.site before.caught was.caught));
    space = omega (arith, was.space, i.space);
  };
  site = i.site;
  same_doc = i.same_doc;
}
  where
    b : Brought doc e h before.site (origin packet) op
    b = brought doc e h before.site packet op lawful short c get

-- a site to which an entry brings nothing
pub record Rests (doc : Document) (e : Entry) (h : History) (s : ℕ) : Type 0 where
  pub packets : packets_to (e ∷ h) s ≡ packets_to h s
  pub cut : cut_of (e ∷ h) s ≡ cut_of h s
  pub tables : tables_at doc (e ∷ h) s ≡ tables_at doc h s
  pub latest : latest_in (published doc (e ∷ h)) (cut_of (e ∷ h) s) ≡ latest_in (published doc h) (cut_of h s)

pub stands_rest : (doc : Document) (e : Entry) (h : History) (state : SiteState) → IsLawful doc (e ∷ h) → Rests doc e h state.site → Stands doc h state → Stands doc (e ∷ h) state
stands_rest doc e h state lawful r was = record {
  lawful = lawful;
  made = was.made;
  there = was.there;
  past = was.past ∙ sym r.packets;
  tables = was.tables ∙ sym r.tables;
  fit = was.fit;
  cut = λ o. was.cut o ∙ sym (ap (λ c. c o) r.cut);
  latest = was.latest ∙ sym r.latest;
  room = was.room;
  caught = has_first_more doc e h state.site state.caught was.caught;
  space = was.space;
}

-- an entry of another site brings it nothing
pub rests_other : (doc : Document) (e : Entry) (h : History) (s : ℕ) → IsLawful doc (e ∷ h) → is_at s e ≡ false → Rests doc e h s
rests_other doc e h s lawful off = record { packets = same.packets; cut = same.cut; tables = same.tables; latest = same.latest }
  where
    same : SameAt doc h (e ∷ h) s
    same = others_leave doc (e ∷ []) h s lawful (All-cons (λ x. is_at s x ≡ false) e [] off (λ k d lt. absurd (omega (arith, lt))))

-- what a site applies
lawful_applied : (doc : Document) (h : History) (s : ℕ) (packet : Packet) → IsLawful doc h → IsApply doc h s packet → IsLawful doc (Apply s packet ∷ h)
lawful_applied doc h s packet lawful next = record { sound = lawful.sound; legal = (next, lawful.legal) }

next_applied : (doc : Document) (h : History) (s : ℕ) (packet : Packet) (op : Op) → IsLawful doc h → IsApply doc h s packet → Some op ≡ slice_get (published doc h (origin packet)) (number packet)
    → slice_get (published doc h (origin packet)) (cut_of h s (origin packet)) ≡ Some op
next_applied doc h s packet op lawful next get =
    ap (slice_get (published doc h (origin packet))) (next_is doc h s packet (lawful_applied doc h s packet lawful next)) ∙ sym get

pub can_apply : (m : MediumView) (packet : Packet) (op : Op) (state : SiteState) → IsLawful (doc_of m) m.history → AreShort (doc_of m) (published (doc_of m) m.history)
    → Stands (doc_of m) m.history state → IsApply (doc_of m) m.history state.site packet → Some op ≡ slice_get (published (doc_of m) m.history (origin packet)) (number packet)
    → CanBring (schema_of state.doc.value.app.tables.items) packet op state
can_apply m packet op state lawful short was next get =
    subst (λ d. CanBring d.schema packet op state) (sym was.made)
    (can_bring (doc_of m) (Apply state.site packet) m.history packet op state (lawful_applied (doc_of m) m.history state.site packet lawful next) short was
    (comes_applied m.history state.site packet) (next_applied (doc_of m) m.history state.site packet op lawful next get))

pub applied_stands : (m after : MediumView) (packet : Packet) (op : Op) (state new : SiteState) → IsLawful (doc_of m) m.history → AreShort (doc_of m) (published (doc_of m) m.history)
    → Stands (doc_of m) m.history state → IsApply (doc_of m) m.history state.site packet → Some op ≡ slice_get (published (doc_of m) m.history (origin packet)) (number packet)
    → IsBrought (schema_of state.doc.value.app.tables.items) packet op state new → after ≡ with_entry m (Apply state.site packet) → Leaves (doc_of after) after.history state new
applied_stands m after packet op state new lawful short was next get is added =
    subst (λ x. Leaves (doc_of x) x.history state new) (sym added)
    (stands_brought (doc_of m) (Apply state.site packet) m.history packet op state new (lawful_applied (doc_of m) m.history state.site packet lawful next) short was
    (comes_applied m.history state.site packet) (next_applied (doc_of m) m.history state.site packet op lawful next get) (subst (λ d. IsBrought d.schema packet op state new) was.made is))

-- entries of other sites, and moves, leave it standing
pub stands_other : (doc : Document) (more h : History) (state : SiteState) → IsLawful doc (more ++ h) → All (λ e. is_at state.site e ≡ false) more → Stands doc h state → Stands doc (more ++ h) state
stands_other doc [] h state lawful off was = was
stands_other doc (e ∷ more) h state lawful off was =
    stands_rest doc e (more ++ h) state lawful (rests_other doc e (more ++ h) state.site lawful (All-head (λ x. is_at state.site x ≡ false) e more off))
    (stands_other doc more h state (lawful_before doc e (more ++ h) lawful) (All-tail (λ x. is_at state.site x ≡ false) e more off) was)

-- an answer of the site that publishes nothing brings it nothing
pub rests_answered : (doc : Document) (h : History) (session index : ℕ) (request : Request) (s at : ℕ) (reply : Reply) (label : Label) → Legal doc h
    → Rests doc (Answer session index request s at reply label None) h s
rests_answered doc h session index request s at reply label legal = record { packets = refl; cut = refl; tables = refl; latest = refl }
