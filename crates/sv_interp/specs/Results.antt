-- What the result of a run is like, whatever the rows answer.
use Rattle.std.specs.Prelude.{◌≡◌, ◌≤◌, ℕ, ℤ, List, [], length, Some, slice_get}
use Rattle.std.specs.List.{All}
use Rattle.sv_app.specs.declared.apps.App.{App}
use Rattle.sv_app.specs.declared.requests.Arg.{Arg}
use Rattle.sv_app.specs.declared.requests.Request.{Request}
use Rattle.sv_app.specs.Accepted.{AcceptedApp}
use Rattle.sv_app.specs.Fitting.{ArgsFit}
use Rattle.sv_app.specs.Schema.{Declaration, schema_of}
use Rattle.sv_app.specs.Shaped.{Shaped}
use Rattle.sv_app.specs.Tables.{Tables}
use Rattle.sv_app.specs.Trees.{Block, Transaction, transactions_of}
use Rattle.sv_effect.specs.declared.outcomes.Outcome.{Outcome}
use Rattle.sv_effect.specs.declared.outcomes.Outcome.TheVariants.{Done, Abort, NoRow, Exists, Range, TooLarge}
use Rattle.sv_effect.specs.declared.outcomes.Ran.{Ran}
use Rattle.sv_effect.specs.Fits.{AllFit}
use Rattle.sv_effect.specs.Run.{run_body, run, ran_of}
use Rattle.sv_interp.specs.declared.settings.Setting.{Setting}
use Rattle.sv_interp.specs.Machine.{setting_of}
use Rattle.sv_trace.specs.Standing.{Frame, IsFrame}

-- the request for the transaction of that number, with these arguments
abbrev pub request_of : ℕ → List Arg → Request
request_of txn args = record { txn = txn; args = args }

-- the application is accepted, the request is for that transaction of it, and its arguments fit
pub record IsRunnable (schema : List Declaration) (txns : List Transaction) (request : Request) (txn : Transaction) : Type 0 where
  pub accepted : AcceptedApp schema txns
  pub among : slice_get txns request.txn ≡ Some txn
  pub fits : ArgsFit txn.params request.args

-- that body is the transaction's, run on its arguments with its first key
pub record IsBodyOf (f : Frame) (schema : List Declaration) (body : Block) (args : List Arg) (first : ℤ) : Type 0 where
  pub frame : IsFrame f
  pub same_schema : f.schema ≡ schema
  pub same_body : f.txn.body ≡ body
  pub same_args : f.args ≡ args
  pub same_first : f.first ≡ first

-- each instance is shaped, and there are at most 64 changes, each of which fits the schema
pub record RunFits (schema : List Declaration) (txn : Transaction) (ran : Ran) : Type 0 where
  pub shaped : All (Shaped schema txn) ran.trace
  pub changes : AllFit schema ran.effects
  pub few : length ran.effects ≤ 64

-- on these tables a body comes to that, and so does a transaction of an application
abbrev pub IsRunOfBody : Setting → Block → Ran → Tables → Type 0
IsRunOfBody g body ran t = run_body (setting_of g).schema body (setting_of g).arguments (setting_of g).first t ≡ ran_of ran

abbrev pub IsRunOf : App → ℕ → List Arg → ℤ → Ran → Tables → Type 0
IsRunOf app txn args first ran t = run (schema_of app.tables.items) (transactions_of app.txns.items) (request_of txn args) first t ≡ ran_of ran

-- the result fits, where the body is that of an accepted transaction whose arguments fit, and the rows are of its application
abbrev pub BodyFits : (List Declaration → Type 0) → Setting → Block → Ran → Type 0
BodyFits is_of g body ran = (f : Frame) → IsBodyOf f (setting_of g).schema body (setting_of g).arguments (setting_of g).first → is_of f.schema → RunFits f.schema f.txn ran

-- the same of a transaction of an application
pub record FitsWhereRunnable (is_of : List Declaration → Type 0) (app : App) (txn : ℕ) (args : List Arg) (ran : Ran) : Type 0 where
  pub fits : (transaction : Transaction) → IsRunnable (schema_of app.tables.items) (transactions_of app.txns.items) (request_of txn args) transaction
      → is_of (schema_of app.tables.items) → RunFits (schema_of app.tables.items) transaction ran

-- nothing was changed, needed or begun
pub record IsEmpty (ran : Ran) : Type 0 where
  pub effects : ran.effects ≡ []
  pub needs : ran.needs ≡ []
  pub trace : ran.trace ≡ []

abbrev pub IsEmptyAfter : Outcome → Ran → Type 0
IsEmptyAfter (Done replies) ran = Unit {0}
IsEmptyAfter (Abort number) ran = IsEmpty ran
IsEmptyAfter NoRow ran = IsEmpty ran
IsEmptyAfter Exists ran = IsEmpty ran
IsEmptyAfter Range ran = IsEmpty ran
IsEmptyAfter TooLarge ran = IsEmpty ran

-- a run that isn't done leaves nothing but its outcome
abbrev pub IsEmptyUnlessDone : Ran → Type 0
IsEmptyUnlessDone ran = IsEmptyAfter ran.outcome ran
