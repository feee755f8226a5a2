-- What the program has of a replay: its document and its steps, and what came of making them.
use Rattle.std.specs.Prelude.{◌≡◌, ℕ, List, ◌++◌, codes}
use Rattle.sv_app.specs.Schema.{schema_of}
use Rattle.sv_app.specs.Trees.{transactions_of}
use Rattle.sv_core.specs.declared.docs.Doc.{Doc}
use Rattle.sv_core.specs.Document.{document_of}
use Rattle.sv_core.specs.Legal.{Legal}
use Rattle.sv_core.specs.Mediums.{WorldView}
use Rattle.sv_core.specs.Sound.{SoundDoc}
use Rattle.sv_report.specs.ReplayText.{AreSteps, started}
use Rattle.sv_report.specs.Steps.{StepsFit}
use Rattle.sv_workload.specs.declared.parts.Step.{Step}
use Rattle.sv_workload.specs.declared.parts.Work.TheVariants as works
use Rattle.sv_tool.specs.declared.documents.Checked.{Checked}
use Rattle.sv_tool.specs.declared.replays.Replay.{Replay}
use Rattle.sv_tool.specs.ReplayAnswer.{replay_document}

-- the steps that an accepted document asks for, on a sound document that they fit
pub record IsReplayIn (checked : Checked) (replay : Replay) : Type 0 where
  pub work : checked.parts.work ≡ works.Replay replay.steps
  pub document : document_of replay.doc ≡ replay_document (schema_of checked.app.tables.items) (transactions_of checked.app.txns.items) checked.parts replay.steps
  pub sound : SoundDoc replay.doc
  pub fit : StepsFit (document_of replay.doc) replay.steps

-- the text of steps that were made, whose history is legal
pub record IsReplayed (doc : Doc) (steps : List Step) (text : List ℕ) : Type 0 where
  pub lines : List ℕ
  pub after : WorldView
  pub are : AreSteps (started doc) steps lines after
  pub ends : text ≡ lines ++ codes "end\n"
  pub legal : Legal (document_of doc) after.medium.history
