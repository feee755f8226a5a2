-- What a step leaves of the numbers of answers, of operations that wait and of moves, and that the steps behind it can be made.
use Rattle.std.proofs.Common.{◌≡◌, ℕ, zero, suc, ◌+◌, ◌-◌, ◌≤◌, List, [], ◌∷◌, length, set, get_or, Option, Some, None, refl, sym, ap, subst, ◌∙◌, arith}
use Rattle.std.specs.Prelude.{All, replicate}
use Rattle.std.proofs.lemmas.List.{length-set}
use Rattle.std.proofs.lemmas.List.Elements.{All-nil, All-cons, All-head, All-tail}
use Rattle.sv_value.specs.declared.packets.Packet.{Packet}
use Rattle.sv_app.specs.declared.requests.Request.{Request}
use Rattle.sv_core.specs.declared.answers.Delivered.{Delivered}
use Rattle.sv_core.specs.declared.answers.Delivered.TheVariants as deliveries
use Rattle.sv_core.specs.declared.answers.Gone.{Gone}
use Rattle.sv_core.specs.declared.answers.Gone.TheVariants as gone
use Rattle.sv_core.specs.declared.answers.Ordered.{Ordered}
use Rattle.sv_core.specs.declared.answers.Ordered.TheVariants as orders
use Rattle.sv_core.specs.declared.docs.Doc.{Doc}
use Rattle.sv_core.specs.declared.entries.Entry.TheVariants.{Apply}
use Rattle.sv_core.specs.Document.{Document, document_of}
use Rattle.sv_core.specs.Events.{IsGone, IsOrdered, IsSettled, after_delivery}
use Rattle.sv_core.specs.History.{History, answered, answers, moves}
use Rattle.sv_core.specs.Mediums.{MediumView, Proposal, WorldView, doc_of, how_many_pending, one_if, with_history}
use Rattle.sv_core.specs.Packets.{lacked, with_applied}
use Rattle.sv_report.specs.ReplayText.{IsAsk, Waits, Lacks, Proposes, Answers, IsStep, started}
use Rattle.sv_report.specs.Steps.{CanMakeAll, StepsFit}
use Rattle.sv_workload.specs.declared.parts.Step.{Step}
use Rattle.sv_workload.specs.declared.parts.Step.TheVariants as steps
use Rattle.sv_workload.specs.LastRefused.{total}
use Rattle.sv_workload.specs.LineReading.{step_asks}
use Rattle.sv_workload.specs.PartsFit.{StepFits, step_moves}

-- a proposal more or less
set_pending : (xs : List (Option Proposal)) (k : ℕ) (o : Option Proposal) → how_many_pending (set xs k o) ≤ how_many_pending xs + one_if o
set_pending [] k o = omega arith
set_pending (x ∷ xs) zero o = omega arith
set_pending (x ∷ xs) (suc k) o = let more = set_pending xs k o in omega (arith, more)

none_pending : (xs : List (Option Proposal)) (k : ℕ) (proposal : Proposal) → get_or xs k None ≡ Some proposal → how_many_pending (set xs k None) + 1 ≤ how_many_pending xs
none_pending [] k proposal is = absurd cc
none_pending (x ∷ xs) zero proposal is = let one : one_if x ≡ 1 = ap one_if is in omega (arith, one)
none_pending (x ∷ xs) (suc k) proposal is = let more = none_pending xs k proposal is in omega (arith, more)

-- no more than so many asks and moves came to pass
record Grown (m after : MediumView) (asks gos : ℕ) : Type 0 where
  pub doc : after.doc ≡ m.doc
  pub asked : answers after.history + how_many_pending after.proposals ≤ answers m.history + how_many_pending m.proposals + asks
  pub gone : moves after.history ≤ moves m.history + gos
  pub places : length after.proposals ≡ length m.proposals

still : (m after : MediumView) (asks gos : ℕ) → after ≡ m → Grown m after asks gos
still m after asks gos same = subst (λ x. Grown m x asks gos) (sym same) (record { doc = refl; asked = omega arith; gone = omega arith; places = refl })

grown_ask : (m : MediumView) (session : ℕ) (request : Request) (line : List ℕ) (after : MediumView) → IsAsk m session request line after → Grown m after 1 0
grown_ask m session request line after (Waits proposal is) = still m m 1 0 refl
grown_ask m session request line after (Lacks missing none first) = still m m 1 0 refl
grown_ask m session request line after (Proposes reply label now red) = record {
  doc = refl;
  asked = let more = set_pending m.proposals (session - 1) (Some (record { index = answered m.history session; request = request; at = length m.history })) in omega (arith, more);
  gone = omega arith;
  places = length-set m.proposals (session - 1) (Some (record { index = answered m.history session; request = request; at = length m.history }));
}
grown_ask m session request line after (Answers reply shown label shown_label packet now blue next) = record { doc = refl; asked = omega arith; gone = omega arith; places = refl }

grown_order : (m : MediumView) (session : ℕ) (o : Ordered) (after : MediumView) → IsOrdered m session o after → Grown m after 0 0
grown_order m session orders.NonePending after (none, same) = still m after 0 0 same
grown_order m session (orders.Behind slot owner) after (proposal, is, slot_is, owned, same) = subst (λ x. Grown m x 0 0) (sym same) (record {
  doc = refl;
  asked = let less = none_pending m.proposals (session - 1) proposal is in omega (arith, less);
  gone = omega arith;
  places = length-set m.proposals (session - 1) None;
})
grown_order m session (orders.Answered place) after (proposal, is, slot, adds) = subst (λ x. Grown m x 0 0) (sym adds.added) (record {
  doc = refl;
  asked = let less = none_pending m.proposals (session - 1) proposal is in omega (arith, less);
  gone = omega arith;
  places = length-set m.proposals (session - 1) None;
})

-- the same answers and moves
record SameCounts (h after : History) : Type 0 where
  pub answered : answers after ≡ answers h
  pub moved : moves after ≡ moves h

with_same : (m : MediumView) (after : History) → SameCounts m.history after → Grown m (with_history m after) 0 0
with_same m after same = record { doc = refl; asked = omega (arith, same.answered); gone = omega (arith, same.moved); places = refl }

delivery_same : (d : Delivered) (site : ℕ) (packet : Packet) (h : History) → SameCounts h (after_delivery d site packet h)
delivery_same deliveries.Applied site packet h = record { answered = refl; moved = refl }
delivery_same deliveries.Duplicate site packet h = record { answered = refl; moved = refl }
delivery_same (deliveries.Early missing) site packet h = record { answered = refl; moved = refl }
delivery_same (deliveries.Unknown n) site packet h = record { answered = refl; moved = refl }

settled_same : (doc : Document) (h : History) (site : ℕ) (inbox : List Packet) (p : Option Packet) (left : List Packet) (after : History) → IsSettled doc h site inbox p left after → SameCounts h after
settled_same doc h site inbox None left after (none, rest, same) = record { answered = ap answers same; moved = ap moves same }
settled_same doc h site inbox (Some packet) left after (first, same) = record { answered = ap answers same; moved = ap moves same }

applied_same : (site : ℕ) (packets : List Packet) (h : History) → SameCounts h (with_applied site packets h)
applied_same site [] h = record { answered = refl; moved = refl }
applied_same site (packet ∷ packets) h = let more = applied_same site packets (Apply site packet ∷ h) in record { answered = more.answered; moved = more.moved }

grown_move : (m : MediumView) (session site : ℕ) (g : Gone) (after : MediumView) → IsGone m session site g after → Grown m after 0 1
grown_move m session site (gone.Waiting index) after (is, same) = still m after 0 1 same
grown_move m session site (gone.Moved place) after (none, stands, same) =
    subst (λ x. Grown m x 0 1) (sym same) (record { doc = refl; asked = omega arith; gone = omega arith; places = refl })

grown : (w next : WorldView) (step : Step) (line : List ℕ) → IsStep w step line next → Grown w.medium next.medium (step_asks step) (step_moves step)
grown w next (steps.Ask session request) line (is, whole) = grown_ask w.medium session request line next.medium is
grown w next (steps.Order session) line (o, is, text, whole) = grown_order w.medium session o next.medium is
grown w next (steps.Deliver site packet) line (d, is, text, whole) =
    subst (λ x. Grown w.medium x 0 0) (sym (ap (λ x. x.medium) whole)) (with_same w.medium (after_delivery d site packet w.medium.history) (delivery_same d site packet w.medium.history))
grown w next (steps.Settle site) line (p, is, text, whole) =
    subst (λ x. Grown w.medium x 0 0) (sym (ap (λ x. x.medium) whole)) (with_same w.medium next.medium.history (settled_same _ _ site _ p _ _ is))
grown w next (steps.Catch site) line (count, is, text, whole) =
    subst (λ x. Grown w.medium x 0 0) (sym (ap (λ x. x.medium) whole))
    (with_same w.medium next.medium.history (subst (SameCounts w.medium.history) (sym is.all) (applied_same site (lacked w.medium.history site) w.medium.history)))
grown w next (steps.Show site table) line (text, whole) = still w.medium next.medium 0 0 (ap (λ x. x.medium) whole)
grown w next (steps.ShowCut site) line (text, whole) = still w.medium next.medium 0 0 (ap (λ x. x.medium) whole)
grown w next (steps.Move session site) line (g, is, text, whole) = grown_move w.medium session site g next.medium is

-- a step leaves the document
pub same_doc : (w next : WorldView) (step : Step) (line : List ℕ) → IsStep w step line next → next.medium.doc ≡ w.medium.doc
same_doc w next step line is = (grown w next step line is).doc

-- a step fits the document of a world
abbrev Fits : WorldView → Step → Type 0
Fits w step = StepFits (doc_of w.medium).schema (doc_of w.medium).txns (doc_of w.medium).sites step

-- the first step can be made, and then the others
pub first_can : (w : WorldView) (step : Step) (steps : List Step) → CanMakeAll w (step ∷ steps) → CanMakeAll w (step ∷ [])
first_can w step steps can = record {
  unlisted = can.unlisted;
  each = All-cons (Fits w) step [] (All-head (Fits w) step steps can.each) (All-nil (Fits w));
  asks = let all = can.asks in omega (arith, all);
  gos = let all = can.gos in omega (arith, all);
  places = can.places;
}

pub others_can : (w next : WorldView) (step : Step) (steps : List Step) (line : List ℕ) → CanMakeAll w (step ∷ steps) → IsStep w step line next → CanMakeAll next steps
others_can w next step steps line can is = record {
  unlisted = subst (λ doc. (document_of doc).sessions ≡ []) (sym more.doc) can.unlisted;
  each = subst (λ doc. All (StepFits (document_of doc).schema (document_of doc).txns (document_of doc).sites) steps) (sym more.doc) (All-tail (Fits w) step steps can.each);
  asks = subst (λ doc. answers next.medium.history + how_many_pending next.medium.proposals + total step_asks steps ≤ (document_of doc).asks) (sym more.doc)
      (let all = can.asks in let few = more.asked in omega (arith, all, few));
  gos = subst (λ doc. moves next.medium.history + total step_moves steps ≤ (document_of doc).moves) (sym more.doc) (let all = can.gos in let few = more.gone in omega (arith, all, few));
  places = more.places ∙ can.places;
}
  where
    more : Grown w.medium next.medium (step_asks step) (step_moves step)
    more = grown w next step line is

none_wait : how_many_pending (replicate 64 None) ≡ 0
none_wait = refl

-- the steps that fit a document can be made on the world of it that was just started
pub all_can : (doc : Doc) (steps : List Step) → StepsFit (document_of doc) steps → CanMakeAll (started doc) steps
all_can doc steps fit = record {
  unlisted = fit.unlisted;
  each = fit.each;
  asks = let none = none_wait in let few = fit.asks in omega (arith, none, few);
  gos = let few = fit.moves in omega (arith, few);
  places = refl;
}
