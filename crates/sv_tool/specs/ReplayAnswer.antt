-- What `replay` answers to the bytes of a document: the text of its steps, or its refusal. A document that asks for no replay is refused at its end, after all else.
use Rattle.std.specs.Prelude.{◌≡◌, ℕ, List, [], ◌∷◌, length, codes}
use Rattle.sv_lex.specs.Spots.{spot_at}
use Rattle.sv_app.specs.declared.refusals.Code.TheVariants.{Syntax}
use Rattle.sv_app.specs.declared.refusals.Refusal.{Refusal}
use Rattle.sv_app.specs.Numbers.{numbered}
use Rattle.sv_app.specs.Schema.{Declaration}
use Rattle.sv_app.specs.Trees.{Transaction}
use Rattle.sv_app.specs.TxnNumbers.{numbered_txns}
use Rattle.sv_core.specs.declared.docs.Doc.{Doc}
use Rattle.sv_core.specs.Document.{Document, document_of}
use Rattle.sv_core.specs.Legal.{Legal}
use Rattle.sv_core.specs.Mediums.{WorldView}
use Rattle.sv_report.specs.ReplayText.{AreSteps, IsReplayText, started}
use Rattle.sv_workload.specs.declared.parts.Parts.{Parts}
use Rattle.sv_workload.specs.declared.parts.Step.{Step}
use Rattle.sv_workload.specs.declared.parts.Work.{Work}
use Rattle.sv_workload.specs.declared.parts.Work.TheVariants as works
use Rattle.sv_workload.specs.LastRefused.{total}
use Rattle.sv_workload.specs.LineReading.{step_asks}
use Rattle.sv_workload.specs.PartsFit.{step_moves}
use Rattle.sv_tool.specs.declared.statuses.Status.TheVariants.{Done}
use Rattle.sv_tool.specs.Answer.{Answer, refused_with}
use Rattle.sv_tool.specs.Documents.{IsDocument, IsRefusedAt}

abbrev pub IsReplay : List (List ℕ) → Type 0
IsReplay words = words ≡ codes "replay" ∷ []

-- the document of a world that takes these steps: as many requests may be answered as they ask, and sessions may move as often as they do
abbrev pub replay_document : List Declaration → List Transaction → Parts → List Step → Document
replay_document schema txns parts steps = record {
  schema = schema;
  txns = txns;
  init = parts.init;
  sites = parts.sites;
  rows = parts.rows;
  changes = parts.changes;
  sessions = [];
  asks = total step_asks steps;
  moves = total step_moves steps;
}

-- there are no steps to replay
abbrev pub HasNoSteps : Work → Type 0
HasNoSteps works.Nothing = Unit {0}
HasNoSteps (works.Replay steps) = ⊥
HasNoSteps (works.Sessions sessions) = Unit {0}

-- the bytes are a document that asks for these steps on a world of this document
pub record IsReplayOf (bytes : List ℕ) (doc : Doc) (steps : List Step) : Type 0 where
  pub schema : List Declaration
  pub txns : List Transaction
  pub parts : Parts
  pub is : IsDocument bytes schema txns parts
  pub work : parts.work ≡ works.Replay steps
  pub document : document_of doc ≡ replay_document (numbered schema) (numbered_txns schema txns) parts steps

-- the answer to the bytes
pub data IsReplayAnswer (bytes : List ℕ) : Answer → Type 0 where
  Replays : (doc : Doc) (steps : List Step) (text : List ℕ) → IsReplayOf bytes doc steps → IsReplayText doc steps text → IsReplayAnswer bytes (record { status = Done; text = text })
  NoSteps : (schema : List Declaration) (txns : List Transaction) (parts : Parts) → IsDocument bytes schema txns parts → HasNoSteps parts.work
      → IsReplayAnswer bytes (refused_with (record { spot = spot_at bytes (length bytes); code = Syntax }))
  Refuses : (refusal : Refusal) → IsRefusedAt bytes refusal → IsReplayAnswer bytes (refused_with refusal)

-- the bytes are a document whose steps make a legal history
pub record IsLegalReplay (bytes : List ℕ) : Type 0 where
  pub doc : Doc
  pub steps : List Step
  pub lines : List ℕ
  pub after : WorldView
  pub of : IsReplayOf bytes doc steps
  pub are : AreSteps (started doc) steps lines after
  pub legal : Legal (document_of doc) after.medium.history
