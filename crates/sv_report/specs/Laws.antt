-- What the definitions promise: the history of a replay is legal, its steps have one text, and the text of `compile` shows no certificate.
use Rattle.std.specs.Prelude.{◌≡◌, ℕ, List}
use Rattle.sv_app.specs.Trees.{Transaction}
use Rattle.sv_label.specs.Groups.{Group}
use Rattle.sv_listing.specs.Laws.{SameGroups}
use Rattle.sv_core.specs.declared.docs.Doc.{Doc}
use Rattle.sv_core.specs.Document.{document_of}
use Rattle.sv_core.specs.Legal.{Legal}
use Rattle.sv_core.specs.Mediums.{WorldView}
use Rattle.sv_core.specs.Sound.{Sound}
use Rattle.sv_report.specs.CompileText.{compile_text}
use Rattle.sv_report.specs.ReplayText.{AreSteps, IsReplayText, started}
use Rattle.sv_report.specs.Steps.{StepsFit}
use Rattle.sv_workload.specs.declared.parts.Step.{Step}

-- the history that steps make is legal
abbrev pub ReplaysAreLegal : Type 0
ReplaysAreLegal = (doc : Doc) (steps : List Step) (text : List ℕ) (after : WorldView) → Sound (document_of doc) → StepsFit (document_of doc) steps
    → AreSteps (started doc) steps text after → Legal (document_of doc) after.medium.history

-- the same text and the same state
pub record AreSame (text other : List ℕ) (after last : WorldView) : Type 0 where
  pub texts : text ≡ other
  pub states : after ≡ last

abbrev pub ReplaysAreOne : Type 0
ReplaysAreOne = (w : WorldView) (steps : List Step) (text other : List ℕ) (after last : WorldView) → AreSteps w steps text after → AreSteps w steps other last → AreSame text other after last

-- a document has one text, wherever its application lies in memory
abbrev pub TextsAreOne : Type 0
TextsAreOne = (doc other : Doc) (steps : List Step) (x y : List ℕ) → document_of doc ≡ document_of other → IsReplayText doc steps x → IsReplayText other steps y → x ≡ y

-- dictionaries that are the same but for certificates have one text
abbrev pub SameCompiled : Type 0
SameCompiled = (txns : List Transaction) (groups others : List Group) → SameGroups groups others → compile_text txns groups ≡ compile_text txns others
