-- The lines of what the calls of a world answer, over the world that they leave.
use Rattle.std.specs.Prelude.{◌≡◌, ℕ, List, [], reverse, Option, Some, None, slice_get}
use Rattle.sv_value.specs.declared.packets.Packet.{Packet}
use Rattle.sv_app.specs.declared.requests.Request.{Request}
use Rattle.sv_threat.specs.declared.label.Label.{Label}
use Rattle.sv_core.specs.declared.answers.Commit.{Commit}
use Rattle.sv_core.specs.declared.answers.Commit.TheVariants as commits
use Rattle.sv_core.specs.declared.answers.Gone.{Gone}
use Rattle.sv_core.specs.declared.answers.Gone.TheVariants as gone
use Rattle.sv_core.specs.declared.answers.Ordered.{Ordered}
use Rattle.sv_core.specs.declared.answers.Ordered.TheVariants as ordered
use Rattle.sv_core.specs.declared.entries.Entry.{Entry}
use Rattle.sv_core.specs.declared.entries.Entry.TheVariants.{Answer, Apply, Move}
use Rattle.sv_core.specs.declared.entries.Reply.{Reply}
use Rattle.sv_core.specs.Mediums.{MediumView, Proposal, proposal_of}
use Rattle.sv_report.specs.Lines.{answer_line, behind_line, moved_line, none_line, pending_line, short_line, waiting_line}

-- the line of an entry that is an answer
abbrev pub entry_line : Option Entry → List ℕ
entry_line None = []
entry_line (Some (Answer session index request site at reply label packet)) = answer_line session index reply label packet
entry_line (Some (Apply site packet)) = []
entry_line (Some (Move session site)) = []

-- an answer of the session stands at this place, where the oldest entry comes first
pub record IsAnswerAt (entries : List Entry) (session place : ℕ) : Type 0 where
  pub index : ℕ
  pub request : Request
  pub site : ℕ
  pub at : ℕ
  pub reply : Reply
  pub label : Label
  pub packet : Option Packet
  pub stands : slice_get entries place ≡ Some (Answer session index request site at reply label packet)

-- what came of an answer that was prepared can be told: an answer of the session stands at the place, or an operation of it waits, or the site lacks something
abbrev pub CanTell : MediumView → ℕ → Commit → Type 0
CanTell m session (commits.Answered place) = IsAnswerAt (reverse m.history) session place
CanTell m session (commits.Pending expected) = (proposal : Proposal) × (proposal_of m session ≡ Some proposal)
CanTell m session (commits.Waiting p index) = Unit {0}
CanTell m session (commits.Short p missing) = Unit {0}
CanTell m session (commits.NotNext p next) = ⊥
CanTell m session (commits.Changed p read now) = ⊥

-- the line of an operation that waits for its slot
abbrev pub waits_line : ℕ → Option Proposal → ℕ → List ℕ
waits_line session None expected = []
waits_line session (Some proposal) expected = pending_line session proposal.index expected

abbrev pub commit_line : MediumView → ℕ → Commit → List ℕ
commit_line m session (commits.Answered place) = entry_line (slice_get (reverse m.history) place)
commit_line m session (commits.Pending expected) = waits_line session (proposal_of m session) expected
commit_line m session (commits.Waiting p index) = waiting_line index
commit_line m session (commits.Short p missing) = short_line missing
commit_line m session (commits.NotNext p next) = []
commit_line m session (commits.Changed p read now) = []

-- where the session was answered, its answer stands at the place
abbrev pub CanTellOrder : MediumView → ℕ → Ordered → Type 0
CanTellOrder m session (ordered.Answered place) = IsAnswerAt (reverse m.history) session place
CanTellOrder m session (ordered.Behind slot owner) = Unit {0}
CanTellOrder m session ordered.NonePending = Unit {0}

abbrev pub order_line : MediumView → Ordered → List ℕ
order_line m (ordered.Answered place) = entry_line (slice_get (reverse m.history) place)
order_line m (ordered.Behind slot owner) = behind_line slot owner
order_line m ordered.NonePending = none_line

abbrev pub gone_line : ℕ → ℕ → Gone → List ℕ
gone_line session site (gone.Moved place) = moved_line session site
gone_line session site (gone.Waiting index) = waiting_line index
