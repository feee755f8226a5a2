-- The history that steps make is legal.
use Rattle.std.proofs.Common.{◌≡◌, ℕ, suc, ◌<◌, ◌≤◌, List, [], ◌∷◌, Option, Some, None, refl, sym, subst, arith}
use Rattle.std.proofs.Math.Nat.{lt_of_not-le}
use Rattle.sv_value.specs.declared.packets.Packet.{Packet}
use Rattle.sv_value.specs.Cuts.{origin, number}
use Rattle.sv_app.specs.declared.requests.Request.{Request}
use Rattle.sv_core.specs.declared.answers.Delivered.{Delivered}
use Rattle.sv_core.specs.declared.answers.Delivered.TheVariants as deliveries
use Rattle.sv_core.specs.declared.answers.Gone.{Gone}
use Rattle.sv_core.specs.declared.answers.Gone.TheVariants as gone
use Rattle.sv_core.specs.declared.answers.Ordered.{Ordered}
use Rattle.sv_core.specs.declared.answers.Ordered.TheVariants as orders
use Rattle.sv_core.specs.declared.entries.Entry.TheVariants.{Apply}
use Rattle.sv_core.specs.Document.{Document, document_of}
use Rattle.sv_core.specs.Events.{IsDelivery, IsGone, IsOrdered, IsSettled, after_delivery}
use Rattle.sv_core.specs.History.{History, cut_of, moves}
use Rattle.sv_core.specs.Laws.{IsLawful}
use Rattle.sv_core.specs.Legal.{IsSession, Legal}
use Rattle.sv_core.specs.Mediums.{MediumView, WorldView, doc_of}
use Rattle.sv_core.specs.Packets.{lacked, with_applied}
use Rattle.sv_core.specs.Sound.{IsSite}
use Rattle.sv_core.proofs.CatchLaws.{first_is_ready}
use Rattle.sv_report.specs.Laws.{ReplaysAreLegal}
use Rattle.sv_report.specs.ReplayText.{AreSteps, IsAsk, Waits, Lacks, Proposes, Answers, IsStep, started}
use Rattle.sv_report.specs.Steps.{CanMakeAll}
use Rattle.sv_report.proofs.GrowLaws.{all_can, first_can, others_can, same_doc}
use Rattle.sv_report.proofs.StepLaws.{deliver_site, catch_site, move_who, move_site, move_awaited}
use Rattle.sv_workload.specs.declared.parts.Step.{Step}
use Rattle.sv_workload.specs.declared.parts.Step.TheVariants as steps

legal_ask : (m : MediumView) (session : ℕ) (request : Request) (line : List ℕ) (after : MediumView) → IsAsk m session request line after → Legal (doc_of m) m.history → Legal (doc_of m) after.history
legal_ask m session request line after (Waits proposal is) legal = legal
legal_ask m session request line after (Lacks missing none first) legal = legal
legal_ask m session request line after (Proposes reply label now red) legal = legal
legal_ask m session request line after (Answers reply shown label shown_label packet now blue next) legal = (next, legal)

legal_order : (m after : MediumView) (session : ℕ) (o : Ordered) → IsOrdered m session o after → Legal (doc_of m) m.history → Legal (doc_of m) after.history
legal_order m after session orders.NonePending (none, same) legal = subst (λ x. Legal (doc_of m) x.history) (sym same) legal
legal_order m after session (orders.Behind slot owner) (proposal, is, slot_is, owned, same) legal = subst (λ x. Legal (doc_of m) x.history) (sym same) legal
legal_order m after session (orders.Answered place) (proposal, is, slot, adds) legal = subst (λ x. Legal (doc_of m) x.history) (sym adds.added) (adds.next, legal)

not_had : (had n : ℕ) → (n < had → ⊥) → had ≤ n
not_had had n lacks = let less : had < suc n = lt_of_not-le {n = suc n} {m = had} lacks in omega (arith, less)

legal_delivery : (doc : Document) (h : History) (site : ℕ) (packet : Packet) (d : Delivered) → IsSite doc site → IsDelivery doc h site packet d → Legal doc h → Legal doc (after_delivery d site packet h)
legal_delivery doc h site packet (deliveries.Unknown n) there is legal = legal
legal_delivery doc h site packet deliveries.Duplicate there is legal = legal
legal_delivery doc h site packet (deliveries.Early missing) there is legal = legal
legal_delivery doc h site packet deliveries.Applied there (op, stands, cause) legal =
    (record { op = op; stands = stands; lacks = not_had (cut_of h site (origin packet)) (number packet) cause.0; covers = cause.1; there = there }, legal)

legal_settled : (doc : Document) (h : History) (site : ℕ) (inbox : List Packet) (p : Option Packet) (left : List Packet) (after : History) → IsSettled doc h site inbox p left after → Legal doc h → Legal doc after
legal_settled doc h site inbox None left after (none, rest, same) legal = subst (Legal doc) (sym same) legal
legal_settled doc h site inbox (Some packet) left after (first, same) legal = subst (Legal doc) (sym same) (first.ready, legal)

legal_caught : (doc : Document) (site : ℕ) (packets : List Packet) (h : History) → IsLawful doc h → IsSite doc site → lacked h site ≡ packets → Legal doc (with_applied site packets h)
legal_caught doc site [] h lawful there lacks = lawful.legal
legal_caught doc site (packet ∷ packets) h lawful there lacks =
    let first = first_is_ready doc h site packet packets lawful there lacks in
    legal_caught doc site packets (Apply site packet ∷ h) (record { sound = lawful.sound; legal = (first.next, lawful.legal) }) there first.left

legal_move : (m after : MediumView) (session site : ℕ) (g : Gone) → IsGone m session site g after → IsSession session → IsSite (doc_of m) site → moves m.history < (doc_of m).moves → (doc_of m).sessions ≡ []
    → Legal (doc_of m) m.history → Legal (doc_of m) after.history
legal_move m after session site (gone.Waiting index) (is, same) who there awaited unlisted legal = subst (λ x. Legal (doc_of m) x.history) (sym same) legal
legal_move m after session site (gone.Moved place) (none, stands, same) who there awaited unlisted legal =
    subst (λ x. Legal (doc_of m) x.history) (sym same) (record { who = who; there = there; awaited = awaited; listed = λ listed. absurd (listed unlisted) }, legal)

legal_step : (w next : WorldView) (step : Step) (line : List ℕ) → IsLawful (doc_of w.medium) w.medium.history → CanMakeAll w (step ∷ []) → IsStep w step line next → Legal (doc_of w.medium) next.medium.history
legal_step w next (steps.Ask session request) line lawful can (is, whole) = legal_ask w.medium session request line next.medium is lawful.legal
legal_step w next (steps.Order session) line lawful can (o, is, text, whole) = legal_order w.medium next.medium session o is lawful.legal
legal_step w next (steps.Deliver site packet) line lawful can (d, is, text, whole) =
    subst (λ x. Legal (doc_of w.medium) x.medium.history) (sym whole) (legal_delivery (doc_of w.medium) w.medium.history site packet d (deliver_site w site packet can) is lawful.legal)
legal_step w next (steps.Settle site) line lawful can (p, is, text, whole) = legal_settled (doc_of w.medium) w.medium.history site _ p _ next.medium.history is lawful.legal
legal_step w next (steps.Catch site) line lawful can (count, is, text, whole) =
    subst (Legal (doc_of w.medium)) (sym is.all) (legal_caught (doc_of w.medium) site (lacked w.medium.history site) w.medium.history lawful (catch_site w site can) refl)
legal_step w next (steps.Show site table) line lawful can (text, whole) = subst (λ x. Legal (doc_of w.medium) x.medium.history) (sym whole) lawful.legal
legal_step w next (steps.ShowCut site) line lawful can (text, whole) = subst (λ x. Legal (doc_of w.medium) x.medium.history) (sym whole) lawful.legal
legal_step w next (steps.Move session site) line lawful can (g, is, text, whole) =
    legal_move w.medium next.medium session site g is (move_who w session site can) (move_site w session site can) (move_awaited w session site can) can.unlisted lawful.legal

legal_steps : (w after : WorldView) (all : List Step) (text : List ℕ) → IsLawful (doc_of w.medium) w.medium.history → CanMakeAll w all → AreSteps w all text after → Legal (doc_of w.medium) after.medium.history
legal_steps w after [] text lawful can (none, same) = subst (λ x. Legal (doc_of w.medium) x.medium.history) (sym same) lawful.legal
legal_steps w after (step ∷ all) text lawful can (line, rest, next, is, are, whole) =
    let doc : next.medium.doc ≡ w.medium.doc = same_doc w next step line is in
    let legal : Legal (doc_of w.medium) next.medium.history = legal_step w next step line lawful (first_can w step all can) is in
    let now : IsLawful (doc_of next.medium) next.medium.history = subst (λ d. IsLawful (document_of d) next.medium.history) (sym doc) (record { sound = lawful.sound; legal = legal }) in
    subst (λ d. Legal (document_of d) after.medium.history) doc (legal_steps next after all rest now (others_can w next step all line can is) are)

pub replays_are_legal : ReplaysAreLegal
replays_are_legal doc all text after sound fit are = legal_steps (started doc) after all text (record { sound = sound; legal = tt }) (all_can doc all fit) are
