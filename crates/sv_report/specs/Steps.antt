-- Which steps can be made on a world, and what making them leaves.
use Rattle.std.specs.Prelude.{◌≡◌, ℕ, ◌+◌, ◌≤◌, List, [], ◌++◌, length, map, All}
use Rattle.sv_app.specs.Valid.{Valid}
use Rattle.sv_effect.specs.Agrees.{Agrees}
use Rattle.sv_effect.specs.BareTables.{bare}
use Rattle.sv_effect.specs.Reads.{read_of}
use Rattle.sv_trace.specs.Laws.{RowsAreOf}
use Rattle.sv_listing.specs.Right.{Right}
use Rattle.sv_core.specs.declared.prepared.Prepared.{Prepared}
use Rattle.sv_core.specs.Document.{Document}
use Rattle.sv_core.specs.History.{answered, answers, moves, tables_at}
use Rattle.sv_core.specs.Made.{Made}
use Rattle.sv_core.specs.Mediums.{MediumView, WorldView, doc_of, how_many_pending}
use Rattle.sv_report.specs.ReplayText.{AreSteps, IsStep, here}
use Rattle.sv_workload.specs.declared.parts.Step.{Step}
use Rattle.sv_workload.specs.LastRefused.{total}
use Rattle.sv_workload.specs.LineReading.{step_asks}
use Rattle.sv_workload.specs.PartsFit.{StepFits, step_moves}

-- the document lists no sessions; sessions, sites, tables and requests of the steps fit it, and no more of them ask and move than may be answered and made
pub record StepsFit (doc : Document) (steps : List Step) : Type 0 where
  pub unlisted : doc.sessions ≡ []
  pub each : All (StepFits doc.schema doc.txns doc.sites) steps
  pub asks : total step_asks steps ≤ doc.asks
  pub moves : total step_moves steps ≤ doc.moves

-- the same of further steps on a world, beside what was asked and moved before; and each of the 64 sessions has its place for an operation that waits
pub record CanMakeAll (w : WorldView) (steps : List Step) : Type 0 where
  pub unlisted : (doc_of w.medium).sessions ≡ []
  pub each : All (StepFits (doc_of w.medium).schema (doc_of w.medium).txns (doc_of w.medium).sites) steps
  pub asks : answers w.medium.history + how_many_pending w.medium.proposals + total step_asks steps ≤ (doc_of w.medium).asks
  pub gos : moves w.medium.history + total step_moves steps ≤ (doc_of w.medium).moves
  pub places : length w.medium.proposals ≡ 64

-- the dictionary of a world's document is right for it
abbrev pub IsRuled : WorldView → Type 0
IsRuled w = Right (doc_of w.medium).schema (doc_of w.medium).txns w.medium.doc.dict

-- what making a step leaves of a text and a world: its line more, and the state behind it
pub record Stepped (before : List ℕ) (w : WorldView) (step : Step) (after : List ℕ) (next : WorldView) : Type 0 where
  pub line : List ℕ
  pub is : IsStep w step line next
  pub grown : after ≡ before ++ line

-- the same of steps
pub record Replayed (before : List ℕ) (w : WorldView) (steps : List Step) (after : List ℕ) (next : WorldView) : Type 0 where
  pub text : List ℕ
  pub are : AreSteps w steps text next
  pub grown : after ≡ before ++ text

-- of the steps of a world these are left: what they lead to is what all of them lead to, and the dictionary is still right
pub record StandsBefore (before : List ℕ) (w : WorldView) (steps : List Step) (now : List ℕ) (next : WorldView) (left : List Step) : Type 0 where
  pub text : List ℕ
  pub grown : now ≡ before ++ text
  pub can : CanMakeAll next left
  pub ruled : IsRuled next
  pub leads : (rest : List ℕ) (after : WorldView) → AreSteps next left rest after → AreSteps w steps (text ++ rest) after

-- an answer that was prepared for the session's next request at the site where it is, on the tables that this site has now
pub record IsReady (m : MediumView) (p : Prepared) : Type 0 where
  pub made : Made (doc_of m) p
  pub lives : p.site ≡ here m p.session
  pub next : p.index ≡ answered m.history p.session
  pub agrees : Agrees (bare (tables_at (doc_of m) m.history p.site)) (map read_of p.reads)
  pub valid : Valid (doc_of m).schema (bare (tables_at (doc_of m) m.history p.site))
  pub stand : RowsAreOf (doc_of m).schema (bare (tables_at (doc_of m) m.history p.site))
