-- What comes of asking for a slot is told, and is an order.
use Rattle.std.proofs.Common.{◌≡◌, ℕ, List, ◌∷◌, ◌++◌, reverse, Some, None, slice_get, refl, sym, ap, ◌∙◌}
use Rattle.sv_core.specs.declared.answers.Ordered.{Ordered}
use Rattle.sv_core.specs.declared.answers.Ordered.TheVariants as orders
use Rattle.sv_core.specs.declared.entries.Entry.{Entry}
use Rattle.sv_core.specs.declared.entries.Entry.TheVariants.{Answer}
use Rattle.sv_core.specs.Events.{AddsAnswer, IsOrdered}
use Rattle.sv_core.specs.History.{site_of}
use Rattle.sv_core.specs.Mediums.{MediumView, Proposal, WorldView, doc_of, with_proposal}
use Rattle.sv_report.specs.ReplayText.{newest_line, ordered_line}
use Rattle.sv_report.specs.Steps.{Stepped}
use Rattle.sv_report.specs.Told.{CanTellOrder, entry_line, order_line}
use Rattle.sv_report.proofs.AskLaws.{newest_stands}
use Rattle.sv_workload.specs.declared.parts.Step.TheVariants as steps

-- the answer that an order adds
abbrev added : (m after : MediumView) (session place : ℕ) (proposal : Proposal) → AddsAnswer (with_proposal m session None) session proposal.index proposal.request (site_of (doc_of m) m.history session) proposal.at place after → Entry
added m after session place proposal adds = Answer session proposal.index proposal.request (site_of (doc_of m) m.history session) proposal.at adds.reply adds.label adds.packet

stands : (m after : MediumView) (session place : ℕ) (proposal : Proposal)
    (adds : AddsAnswer (with_proposal m session None) session proposal.index proposal.request (site_of (doc_of m) m.history session) proposal.at place after)
    → slice_get (reverse after.history) place ≡ Some (added m after session place proposal adds)
stands m after session place proposal adds =
    ap (λ x. slice_get (reverse x.history) place) adds.added
    ∙ ap (λ n. slice_get (reverse (added m after session place proposal adds ∷ m.history)) n) adds.stands
    ∙ newest_stands m.history (added m after session place proposal adds)

pub can_tell : (m after : MediumView) (session : ℕ) (o : Ordered) → IsOrdered m session o after → CanTellOrder after session o
can_tell m after session orders.NonePending is = tt
can_tell m after session (orders.Behind slot owner) is = tt
can_tell m after session (orders.Answered place) (proposal, waits, slot, adds) = record {
  index = proposal.index;
  request = proposal.request;
  site = site_of (doc_of m) m.history session;
  at = proposal.at;
  reply = adds.reply;
  label = adds.label;
  packet = adds.packet;
  stands = stands m after session place proposal adds;
}

-- the line of a call is the line of the step
line_is : (m after : MediumView) (session : ℕ) (o : Ordered) → IsOrdered m session o after → order_line after o ≡ ordered_line o after.history
line_is m after session orders.NonePending is = refl
line_is m after session (orders.Behind slot owner) is = refl
line_is m after session (orders.Answered place) (proposal, waits, slot, adds) =
    ap entry_line (stands m after session place proposal adds)
    ∙ sym (ap (λ x. newest_line x.history) adds.added)

pub orders_step : (before now : List ℕ) (w next : WorldView) (session : ℕ) (o : Ordered) → IsOrdered w.medium session o next.medium → next.inboxes ≡ w.inboxes
    → now ≡ before ++ order_line next.medium o → Stepped before w (steps.Order session) now next
orders_step before now w next session o is stay grown = record {
  line = order_line next.medium o;
  is = (o, is, line_is w.medium next.medium session o is, λ i. record { medium = next.medium; inboxes = stay i });
  grown = grown;
}

pub ruleset ordering = (can_tell, orders_step)
