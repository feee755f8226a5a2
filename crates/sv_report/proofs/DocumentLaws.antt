-- The text of a replay is that of its document, wherever the application lies in memory.
use Rattle.std.proofs.Common.{◌≡◌, ℕ, List, [], ◌∷◌, ◌++◌, length, Some, None, slice_get, sym, ap, subst, ◌∙◌}
use Rattle.std.specs.Prelude.{replicate, codes}
use Rattle.sv_value.specs.Cuts.{Covers}
use Rattle.sv_app.specs.declared.requests.Request.{Request}
use Rattle.sv_causal.specs.Missing.{IsFirstMissing}
use Rattle.sv_effect.specs.BareTables.{bare}
use Rattle.sv_threat.specs.declared.label.Label.{Label}
use Rattle.sv_core.specs.declared.answers.Gone.{Gone}
use Rattle.sv_core.specs.declared.answers.Gone.TheVariants as gone
use Rattle.sv_core.specs.declared.answers.Ordered.{Ordered}
use Rattle.sv_core.specs.declared.answers.Ordered.TheVariants as orders
use Rattle.sv_core.specs.declared.docs.Doc.{Doc}
use Rattle.sv_core.specs.declared.entries.Entry.TheVariants.{Answer}
use Rattle.sv_core.specs.declared.entries.Reply.{Reply}
use Rattle.sv_core.specs.Document.{Document, document_of}
use Rattle.sv_core.specs.Events.{AddsAnswer, IsDelivery, IsGone, IsOrdered, IsSettled}
use Rattle.sv_core.specs.History.{answered, back_to, cut_of, published, seen_of, site_of, tables_at}
use Rattle.sv_core.specs.Judged.{IsJudged}
use Rattle.sv_core.specs.Legal.{IsNext}
use Rattle.sv_core.specs.Mediums.{MediumView, WorldView, doc_of, inbox_of, with_entry, with_proposal}
use Rattle.sv_core.specs.Runs.{run_of}
use Rattle.sv_report.specs.Laws.{TextsAreOne}
use Rattle.sv_report.specs.Lines.{answer_line, cut_line, pending_line, show_lines}
use Rattle.sv_report.specs.ReplayText.{AreSteps, IsAsk, Waits, Lacks, Proposes, Answers, IsAskedNow, IsStep, here, name_of, proposed, rows_of, started}
use Rattle.sv_report.proofs.GrowLaws.{same_doc}
use Rattle.sv_report.proofs.OnceLaws.{replays_are_one}
use Rattle.sv_workload.specs.declared.parts.Step.{Step}
use Rattle.sv_workload.specs.declared.parts.Step.TheVariants as steps

-- the same state of another document
abbrev with_doc : Doc → MediumView → MediumView
with_doc a m = record { doc = a; history = m.history; proposals = m.proposals }

abbrev world_of : Doc → WorldView → WorldView
world_of a w = record { medium = with_doc a w.medium; inboxes = w.inboxes }

module _ (a : Doc) (m : MediumView) (e : doc_of m ≡ document_of a) where
  sites : (session : ℕ) → here m session ≡ here (with_doc a m) session
  sites session = ap (λ d. site_of d m.history session) e

  asked_too : (session : ℕ) (request : Request) (reply : Reply) (label : Label) → IsAskedNow m session request reply label → IsAskedNow (with_doc a m) session request reply label
  asked_too session request reply label now = record {
    none = now.none;
    covers = subst (λ (d : Document). Covers (cut_of m.history (site_of d m.history session)) (seen_of m.history session)) e now.covers;
    judged = subst (λ (d : Document). IsJudged d.schema (bare (tables_at d m.history (site_of d m.history session)))
        (run_of d session (answered m.history session) request (bare (tables_at d m.history (site_of d m.history session)))) reply label) e now.judged;
  }

  adds_too : (session index : ℕ) (request : Request) (site at place : ℕ) (after : MediumView) → AddsAnswer m session index request site at place after
      → AddsAnswer (with_doc a m) session index request site at place (with_doc a after)
  adds_too session index request site at place after adds = record {
    reply = adds.reply;
    label = adds.label;
    packet = adds.packet;
    next = subst (λ (d : Document). IsNext d m.history (Answer session index request site at adds.reply adds.label adds.packet)) e adds.next;
    added = ap (with_doc a) adds.added;
    stands = adds.stands;
  }

ask_too : (a : Doc) (m : MediumView) (session : ℕ) (request : Request) (line : List ℕ) (after : MediumView) → doc_of m ≡ document_of a → IsAsk m session request line after
    → IsAsk (with_doc a m) session request line (with_doc a after)
ask_too a m session request line after e (Waits proposal is) = Waits proposal is
ask_too a m session request line after e (Lacks missing none first) =
    Lacks missing none (subst (λ (d : Document). IsFirstMissing (cut_of m.history (site_of d m.history session)) (seen_of m.history session) missing) e first)
ask_too a m session request line after e (Proposes reply label now red) =
    subst (λ s. IsAsk (with_doc a m) session request (pending_line session (answered m.history session) (cut_of m.history s 0)) (proposed (with_doc a m) session request)) (sym (sites a m e session))
    (Proposes reply label (asked_too a m e session request reply label now) red)
ask_too a m session request line after e (Answers reply shown label shown_label packet now blue next) =
    subst (λ s. IsAsk (with_doc a m) session request (answer_line session (answered m.history session) shown shown_label packet)
    (with_entry (with_doc a m) (Answer session (answered m.history session) request s (length m.history) shown shown_label packet))) (sym (sites a m e session))
    (Answers reply shown label shown_label packet (asked_too a m e session request reply label now) blue
    (subst (λ (d : Document). IsNext d m.history (Answer session (answered m.history session) request (site_of d m.history session) (length m.history) shown shown_label packet)) e next))

order_too : (a : Doc) (m after : MediumView) (session : ℕ) (o : Ordered) → doc_of m ≡ document_of a → IsOrdered m session o after → IsOrdered (with_doc a m) session o (with_doc a after)
order_too a m after session orders.NonePending e (none, same) = (none, ap (with_doc a) same)
order_too a m after session (orders.Behind slot owner) e (proposal, is, slot_is, owned, same) = (
  proposal,
  is,
  subst (λ (d : Document). slot ≡ cut_of (back_to proposal.at m.history) (site_of d m.history session) 0) e slot_is,
  record { op = owned.op; stands = subst (λ (d : Document). slice_get (published d m.history 0) slot ≡ Some owned.op) e owned.stands; is = owned.is },
  ap (with_doc a) same,
)
order_too a m after session (orders.Answered place) e (proposal, is, due, adds) = (
  proposal,
  is,
  subst (λ (d : Document). cut_of (back_to proposal.at m.history) (site_of d m.history session) 0 ≡ length (published d m.history 0)) e due,
  subst (λ s. AddsAnswer (with_proposal (with_doc a m) session None) session proposal.index proposal.request s proposal.at place (with_doc a after)) (sites a m e session)
      (adds_too a (with_proposal m session None) e session proposal.index proposal.request (here m session) proposal.at place after adds),
)

gone_too : (a : Doc) (m after : MediumView) (session site : ℕ) (g : Gone) → IsGone m session site g after → IsGone (with_doc a m) session site g (with_doc a after)
gone_too a m after session site (gone.Waiting index) (is, same) = (is, ap (with_doc a) same)
gone_too a m after session site (gone.Moved place) (none, stands, same) = (none, stands, ap (with_doc a) same)

step_too : (a : Doc) (w next : WorldView) (step : Step) (line : List ℕ) → doc_of w.medium ≡ document_of a → IsStep w step line next → IsStep (world_of a w) step line (world_of a next)
step_too a w next (steps.Ask session request) line e (is, whole) = (ask_too a w.medium session request line next.medium e is, ap (world_of a) whole)
step_too a w next (steps.Order session) line e (o, is, text, whole) = (o, order_too a w.medium next.medium session o e is, text, ap (world_of a) whole)
step_too a w next (steps.Deliver site packet) line e (d, is, text, whole) =
    (d, subst (λ (doc : Document). IsDelivery doc w.medium.history site packet d) e is, text, ap (world_of a) whole)
step_too a w next (steps.Settle site) line e (p, is, text, whole) =
    (p, subst (λ (doc : Document). IsSettled doc w.medium.history site (inbox_of w site) p (inbox_of next site) next.medium.history) e is, text, ap (world_of a) whole)
step_too a w next (steps.Catch site) line e (count, is, text, whole) = (count, is, text, ap (world_of a) whole)
step_too a w next (steps.Show site table) line e (text, whole) =
    (subst (λ (doc : Document). line ≡ show_lines site (name_of (slice_get doc.schema table)) (rows_of table (tables_at doc w.medium.history site))) e text, ap (world_of a) whole)
step_too a w next (steps.ShowCut site) line e (text, whole) = (subst (λ (doc : Document). line ≡ cut_line doc.sites (cut_of w.medium.history site)) e text, ap (world_of a) whole)
step_too a w next (steps.Move session site) line e (g, is, text, whole) = (g, gone_too a w.medium next.medium session site g is, text, ap (world_of a) whole)

steps_too : (a : Doc) (w after : WorldView) (all : List Step) (text : List ℕ) → doc_of w.medium ≡ document_of a → AreSteps w all text after → AreSteps (world_of a w) all text (world_of a after)
steps_too a w after [] text e (none, same) = (none, ap (world_of a) same)
steps_too a w after (step ∷ all) text e (line, rest, next, is, are, whole) =
    (line, rest, world_of a next, step_too a w next step line e is, steps_too a next after all rest (ap document_of (same_doc w next step line is) ∙ e) are, whole)

pub texts_are_one : TextsAreOne
texts_are_one a b all x y e p q =
    p.ends ∙ ap (λ l. l ++ codes "end\n") (replays_are_one (started a) all p.lines q.lines p.after (world_of a q.after) p.are there).texts ∙ sym q.ends
  where
    begun : world_of a (started b) ≡ started a
    begun = ap (λ (d : Document). record { medium = record { doc = a; history = []; proposals = replicate 64 None }; inboxes = replicate d.sites [] }) (sym e)

    there : AreSteps (started a) all q.lines (world_of a q.after)
    there = subst (λ w. AreSteps w all q.lines (world_of a q.after)) begun (steps_too a (started b) q.after all q.lines (sym e) q.are)
