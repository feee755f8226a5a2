-- What was prepared for a document: a request of one of its sessions, and a reply and a label that are right on all valid tables, of rows of its tables,
-- that agree with what was read.
use Rattle.std.specs.Prelude.{◌≡◌, ◌≢◌, ◌<◌, ◌≤◌, ◌^◌, ℕ, ℤ, List, [], ◌∷◌, length, map, Some, slice_get}
use Rattle.sv_app.specs.declared.requests.Request.{Request}
use Rattle.sv_app.specs.Accepted.{AcceptedApp}
use Rattle.sv_app.specs.Schema.{Declaration}
use Rattle.sv_app.specs.Tables.{Tables}
use Rattle.sv_app.specs.Valid.{Valid}
use Rattle.sv_effect.specs.declared.ops.Need.{Need}
use Rattle.sv_effect.specs.declared.ops.Op.{Op}
use Rattle.sv_effect.specs.Agrees.{Agrees}
use Rattle.sv_effect.specs.Effects.{FindsAll}
use Rattle.sv_effect.specs.Reads.{read_of}
use Rattle.sv_effect.specs.Run.{RunResult, run}
use Rattle.sv_effect.specs.RunChanges.{effect_of}
use Rattle.sv_trace.specs.Laws.{RowsAreOf}
use Rattle.sv_safety.specs.Laws.{IsBlue}
use Rattle.sv_threat.specs.declared.label.Label.TheVariants.{Blue}
use Rattle.sv_label.specs.Groups.{Group}
use Rattle.sv_listing.specs.Right.{AreWords}
use Rattle.sv_core.specs.declared.docs.Doc.{Doc}
use Rattle.sv_core.specs.declared.docs.Item.{Item}
use Rattle.sv_core.specs.declared.docs.Item.TheVariants.{Call, Go}
use Rattle.sv_core.specs.declared.entries.Reply.{Reply}
use Rattle.sv_core.specs.declared.entries.Reply.TheVariants.{Ran, Refused, Full}
use Rattle.sv_core.specs.declared.prepared.Prepared.{Prepared}
use Rattle.sv_core.specs.declared.prepared.Answered.{Answered}
use Rattle.sv_core.specs.Document.{Document, document_of}
use Rattle.sv_core.specs.History.{items_of}
use Rattle.sv_core.specs.Judged.{made_by, IsJudged, IsReply}
use Rattle.sv_core.specs.Labelled.{IsLabelBy}
use Rattle.sv_core.specs.Legal.{IsSession}
use Rattle.sv_core.specs.Runs.{run_of}
use Rattle.sv_core.specs.Sound.{RequestFits, IsSite}

-- the calls of a session, in order
abbrev pub calls_of : List Item → List Item
calls_of [] = []
calls_of (Call request ∷ items) = Call request ∷ calls_of items
calls_of (Go site ∷ items) = calls_of items

-- where the document lists sessions, the request is the session's call of that number, from 0
abbrev pub IsListedAt : Document → ℕ → ℕ → Request → Type 0
IsListedAt doc session index request = doc.sessions ≢ [] → slice_get (calls_of (items_of doc session)) index ≡ Some (Call request)

-- the needs that a reply stands for: those of the run, and none where it is refused
abbrev pub NeedsOf : Reply → List Need → List Need → Type 0
NeedsOf (Ran outcome) ran needs = needs ≡ ran
NeedsOf (Refused inv) ran needs = needs ≡ []
NeedsOf (Full which used) ran needs = ⊥

-- right on these tables
pub record IsRight (doc : Document) (p : Prepared) (t : Tables) : Type 0 where
  pub judged : IsJudged doc.schema t (run_of doc p.session p.index p.request t) p.reply p.label
  pub effects : map effect_of p.effects ≡ made_by p.reply (run_of doc p.session p.index p.request t).effects
  pub needs : NeedsOf p.reply (run_of doc p.session p.index p.request t).needs p.needs

pub record Made (doc : Document) (p : Prepared) : Type 0 where
  pub who : IsSession p.session
  pub there : IsSite doc p.site
  pub asked : RequestFits doc p.request
  pub listed : IsListedAt doc p.session p.index p.request
  pub few : length p.reads < 2 ^ 32
  pub right : (t : Tables) → Valid doc.schema t → RowsAreOf doc.schema t → Agrees t (map read_of p.reads) → IsRight doc p t

-- the dictionary decides the label, whether it is right or only covers the application
abbrev pub IsDecidedOn : Document → List Group → Prepared → Tables → Type 0
IsDecidedOn doc groups p t =
    let ran : RunResult = run_of doc p.session p.index p.request t in
    IsLabelBy doc.schema groups p.request.txn ran.trace (made_by p.reply ran.effects) p.label

pub record DecidedBy (doc : Doc) (p : Prepared) : Type 0 where
  pub each : (t : Tables) → Valid (document_of doc).schema t → Agrees t (map read_of p.reads) → IsDecidedOn (document_of doc) doc.dict p t

-- the answer to a run, on valid tables in which its changes find their rows
pub record IsAnswer (schema : List Declaration) (groups : List Group) (txn : ℕ) (ran : RunResult) (answer : Answered) (t : Tables) : Type 0 where
  pub replied : IsReply schema t ran answer.reply
  pub labelled : IsLabelBy schema groups txn ran.trace (made_by answer.reply ran.effects) answer.label
  pub words : AreWords (made_by answer.reply ran.effects)
  pub effects : map effect_of answer.effects ≡ made_by answer.reply ran.effects
  pub needs : NeedsOf answer.reply ran.needs answer.needs

abbrev pub IsAnswerTo : List Declaration → List Group → ℕ → RunResult → Answered → Tables → Type 0
IsAnswerTo schema groups txn ran answer t = Valid schema t → FindsAll schema ran.effects t → IsAnswer schema groups txn ran answer t

-- the answer to the run of a request with this first key
abbrev pub IsAnswerOn : Document → List Group → ℤ → Request → Answered → Tables → Type 0
IsAnswerOn doc groups first request answer t = Valid doc.schema t → IsAnswer doc.schema groups request.txn (run doc.schema doc.txns request first t) answer t

-- it was prepared for this request
pub record IsFor (session site index : ℕ) (request : Request) (p : Prepared) : Type 0 where
  pub same_session : p.session ≡ session
  pub same_site : p.site ≡ site
  pub same_index : p.index ≡ index
  pub same_request : p.request ≡ request

-- the operation of a prepared answer
pub record IsOpFor (p : Prepared) (op : Op) : Type 0 where
  pub effects : op.effects ≡ p.effects
  pub needs : op.needs ≡ p.needs
  pub time : 1 ≤ op.time

-- one that was prepared blue is safe and commutes, whatever its time, its site and its deps
abbrev pub PreparedIsSafe : Type 0
PreparedIsSafe = (doc : Document) (p : Prepared) (t : Tables) (op : Op) → AcceptedApp doc.schema doc.txns → Made doc p → Valid doc.schema t → RowsAreOf doc.schema t
    → Agrees t (map read_of p.reads) → p.label ≡ Blue → IsOpFor p op → IsBlue doc.schema op
