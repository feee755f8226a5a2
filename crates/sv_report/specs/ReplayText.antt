-- The text of a replay: a line for each of its steps, over the state that the steps before it left. It is told by the meaning of runs, the definition of threats, the
-- tables of cuts and by what becomes of packets; it knows nothing of how a program keeps rows, of what it read, or of what it prepared.
use Rattle.std.specs.Prelude.{◌≡◌, ℕ, ◌==◌, ◌&&◌, Bool, List, [], ◌∷◌, ◌++◌, length, filter, replicate, Option, Some, None, slice_get, codes}
use Rattle.std.specs.FinMap.{entries}
use Rattle.sv_value.specs.declared.packets.Packet.{Packet}
use Rattle.sv_value.specs.Cuts.{Covers}
use Rattle.sv_app.specs.declared.places.Place.{Place}
use Rattle.sv_app.specs.declared.requests.Request.{Request}
use Rattle.sv_app.specs.Schema.{Declaration}
use Rattle.sv_effect.specs.BareTables.{bare}
use Rattle.sv_effect.specs.StampedTables.{StampedRow, StampedTables}
use Rattle.sv_threat.specs.declared.label.Label.{Label}
use Rattle.sv_causal.specs.Missing.{IsFirstMissing}
use Rattle.sv_core.specs.declared.answers.Delivered.{Delivered}
use Rattle.sv_core.specs.declared.answers.Gone.{Gone}
use Rattle.sv_core.specs.declared.answers.Ordered.{Ordered}
use Rattle.sv_core.specs.declared.answers.Ordered.TheVariants as ordered
use Rattle.sv_core.specs.declared.entries.Entry.TheVariants.{Answer, Apply, Move}
use Rattle.sv_core.specs.declared.entries.Reply.{Reply}
use Rattle.sv_core.specs.declared.docs.Doc.{Doc}
use Rattle.sv_core.specs.Events.{IsCaught, IsDelivery, IsGone, IsOrdered, IsRed, IsSettled, after_delivery, inbox_after}
use Rattle.sv_core.specs.History.{History, answered, cut_of, seen_of, site_of, tables_at}
use Rattle.sv_core.specs.Judged.{IsJudged}
use Rattle.sv_core.specs.Legal.{IsNext}
use Rattle.sv_core.specs.Mediums.{Proposal, MediumView, WorldView, doc_of, inbox_of, proposal_of, with_entry, with_history, with_inbox, with_proposal}
use Rattle.sv_core.specs.Runs.{run_of}
use Rattle.sv_report.specs.Lines.{answer_line, behind_line, caught_line, cut_line, delivered_line, none_line, pending_line, settled_line, short_line, show_lines, waiting_line}
use Rattle.sv_report.specs.Told.{gone_line}
use Rattle.sv_workload.specs.declared.parts.Step.{Step}
use Rattle.sv_workload.specs.declared.parts.Step.TheVariants as steps

-- the state before the first step
abbrev pub started : Doc → WorldView
started doc = record { medium = record { doc = doc; history = []; proposals = replicate 64 None }; inboxes = replicate doc.sites [] }

-- the line of the newest entry, where it is an answer
abbrev pub newest_line : History → List ℕ
newest_line [] = []
newest_line (Answer session index request site at reply label packet ∷ h) = answer_line session index reply label packet
newest_line (Apply site packet ∷ h) = []
newest_line (Move session site ∷ h) = []

-- the site where the session is, and what a request of it is answered on the tables that this site has now
abbrev pub here : MediumView → ℕ → ℕ
here m session = site_of (doc_of m) m.history session

abbrev pub IsJudgedHere : MediumView → ℕ → Request → Reply → Label → Type 0
IsJudgedHere m session request reply label =
    IsJudged (doc_of m).schema (bare (tables_at (doc_of m) m.history (here m session))) (run_of (doc_of m) session (answered m.history session) request (bare (tables_at (doc_of m) m.history (here m session)))) reply label

-- no operation of the session waits, its site has all that it has seen, and this is the judgement on its request
pub record IsAskedNow (m : MediumView) (session : ℕ) (request : Request) (reply : Reply) (label : Label) : Type 0 where
  pub none : proposal_of m session ≡ None
  pub covers : Covers (cut_of m.history (here m session)) (seen_of m.history session)
  pub judged : IsJudgedHere m session request reply label

abbrev pub proposed : MediumView → ℕ → Request → MediumView
proposed m session request = with_proposal m session (Some (record { index = answered m.history session; request = request; at = length m.history }))

-- an ask: `waiting` where an operation of the session waits; else `short` where its site lacks something that it has seen; else `pending` where the request is judged red;
-- else it is answered
pub data IsAsk (m : MediumView) (session : ℕ) (request : Request) : List ℕ → MediumView → Type 0 where
  Waits : (proposal : Proposal) → proposal_of m session ≡ Some proposal → IsAsk m session request (waiting_line proposal.index) m
  Lacks : (missing : Packet) → proposal_of m session ≡ None → IsFirstMissing (cut_of m.history (here m session)) (seen_of m.history session) missing
      → IsAsk m session request (short_line missing) m
  Proposes : (reply : Reply) (label : Label) → IsAskedNow m session request reply label → IsRed label
      → IsAsk m session request (pending_line session (answered m.history session) (cut_of m.history (here m session) 0)) (proposed m session request)
  Answers : (reply shown_reply : Reply) (label shown_label : Label) (packet : Option Packet) → IsAskedNow m session request reply label → (IsRed label → ⊥)
      → IsNext (doc_of m) m.history (Answer session (answered m.history session) request (here m session) (length m.history) shown_reply shown_label packet)
      → IsAsk m session request (answer_line session (answered m.history session) shown_reply shown_label packet)
      (with_entry m (Answer session (answered m.history session) request (here m session) (length m.history) shown_reply shown_label packet))

abbrev pub ordered_line : Ordered → History → List ℕ
ordered_line ordered.NonePending h = none_line
ordered_line (ordered.Behind slot owner) h = behind_line slot owner
ordered_line (ordered.Answered place) h = newest_line h

-- the rows that are present in the table of this number, in the order of their keys
abbrev pub is_shown : ℕ → Place × StampedRow → Bool
is_shown table entry = entry.0.table == table && entry.1.mark.value

abbrev pub rows_of : ℕ → StampedTables → List (Place × StampedRow)
rows_of table t = filter (is_shown table) (entries t)

abbrev pub name_of : Option Declaration → List ℕ
name_of None = []
name_of (Some table) = table.name.name

-- only the medium changes
abbrev pub with_medium : WorldView → MediumView → WorldView
with_medium w m = record { medium = m; inboxes = w.inboxes }

-- the line of a step, and the state behind it
abbrev pub IsStep : WorldView → Step → List ℕ → WorldView → Type 0
IsStep w (steps.Ask session request) line after = IsAsk w.medium session request line after.medium × (after ≡ with_medium w after.medium)
IsStep w (steps.Order session) line after =
    (answer : Ordered) × IsOrdered w.medium session answer after.medium × (line ≡ ordered_line answer after.medium.history) × (after ≡ with_medium w after.medium)
IsStep w (steps.Deliver site packet) line after =
    (answer : Delivered) × IsDelivery (doc_of w.medium) w.medium.history site packet answer × (line ≡ delivered_line answer)
    × (after ≡ with_inbox (with_medium w (with_history w.medium (after_delivery answer site packet w.medium.history))) site (inbox_after answer packet (inbox_of w site)))
IsStep w (steps.Settle site) line after =
    (packet : Option Packet) × IsSettled (doc_of w.medium) w.medium.history site (inbox_of w site) packet (inbox_of after site) after.medium.history × (line ≡ settled_line packet)
    × (after ≡ with_inbox (with_medium w (with_history w.medium after.medium.history)) site (inbox_of after site))
IsStep w (steps.Catch site) line after =
    (count : ℕ) × IsCaught w.medium.history site count after.medium.history × (line ≡ caught_line count) × (after ≡ with_medium w (with_history w.medium after.medium.history))
IsStep w (steps.Show site table) line after =
    (line ≡ show_lines site (name_of (slice_get (doc_of w.medium).schema table)) (rows_of table (tables_at (doc_of w.medium) w.medium.history site))) × (after ≡ w)
IsStep w (steps.ShowCut site) line after = (line ≡ cut_line (doc_of w.medium).sites (cut_of w.medium.history site)) × (after ≡ w)
IsStep w (steps.Move session site) line after =
    (answer : Gone) × IsGone w.medium session site answer after.medium × (line ≡ gone_line session site answer) × (after ≡ with_medium w after.medium)

-- the lines of steps, and the state behind them
abbrev pub AreSteps : WorldView → List Step → List ℕ → WorldView → Type 0
AreSteps w [] text after = (text ≡ []) × (after ≡ w)
AreSteps w (step ∷ steps) text after =
    (line rest : List ℕ) × (next : WorldView) × IsStep w step line next × AreSteps next steps rest after × (text ≡ line ++ rest)

-- the text of the steps of a document
pub record IsReplayText (doc : Doc) (steps : List Step) (text : List ℕ) : Type 0 where
  pub lines : List ℕ
  pub after : WorldView
  pub are : AreSteps (started doc) steps lines after
  pub ends : text ≡ lines ++ codes "end\n"
