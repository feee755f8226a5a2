-- What the meaning of runs promises: a run of an accepted application, on arguments that fit and on rows of its tables, has a trace of shaped instances
-- and at most 64 changes, each of which fits the schema. The changes of any run find their rows and make the tables that it leaves, and each belongs to an
-- entry of the trace.
use Rattle.std.specs.Prelude.{◌≡◌, ◌≤◌, ℤ, List, length, Some, slice_get}
use Rattle.std.specs.FinMap.{get}
use Rattle.std.specs.List.{All}
use Rattle.sv_app.specs.declared.places.Place.{Place}
use Rattle.sv_app.specs.declared.requests.Request.{Request}
use Rattle.sv_app.specs.Accepted.{AcceptedApp}
use Rattle.sv_app.specs.Fitting.{ArgsFit}
use Rattle.sv_app.specs.Schema.{Declaration}
use Rattle.sv_app.specs.Shaped.{Shaped}
use Rattle.sv_app.specs.Tables.{Row, Tables}
use Rattle.sv_app.specs.Trees.{Transaction}
use Rattle.sv_effect.specs.Fits.{EffectFits}
use Rattle.sv_effect.specs.Effects.{with_effects, FindsAll}
use Rattle.sv_effect.specs.Run.{RunResult, run, tables_left}
use Rattle.sv_effect.specs.RunChanges.{Effect}
use Rattle.sv_trace.specs.Entries.{HasEntry}
use Rattle.sv_trace.specs.Standing.{RowIs}

-- each row is of its table: its key and its values are of the types that the table declares, whatever integers they are
abbrev pub RowsAreOf : List Declaration → Tables → Type 0
RowsAreOf schema t = (place : Place) (row : Row) → get t place ≡ Some row → RowIs schema place row.values

pub record IsShapedRun (schema : List Declaration) (txn : Transaction) (ran : RunResult) : Type 0 where
  pub trace : All (Shaped schema txn) ran.trace
  pub changes : All (EffectFits schema) ran.effects
  pub few : length ran.effects ≤ 64

abbrev pub RunsAreShaped : Type 0
RunsAreShaped = (schema : List Declaration) (txns : List Transaction) (request : Request) (txn : Transaction) (first : ℤ) (t : Tables) → AcceptedApp schema txns → slice_get txns request.txn ≡ Some txn → ArgsFit txn.params request.args
    → RowsAreOf schema t → IsShapedRun schema txn (run schema txns request first t)

-- each row that is updated or removed is kept or was inserted before; made in order, the changes leave these tables
pub record AreMadeOn (schema : List Declaration) (t : Tables) (changes : List Effect) (left : Tables) : Type 0 where
  pub find : FindsAll schema changes t
  pub leave : left ≡ with_effects schema changes t

abbrev pub RunsMakeTheirTables : Type 0
RunsMakeTheirTables = (schema : List Declaration) (txns : List Transaction) (request : Request) (first : ℤ) (t : Tables) → AreMadeOn schema t (run schema txns request first t).effects (tables_left schema txns request first t)

-- an application that is accepted says which unit a statement is of, since no loop stands in a loop
abbrev pub ChangesHaveEntries : Type 0
ChangesHaveEntries = (schema : List Declaration) (txns : List Transaction) (request : Request) (txn : Transaction) (first : ℤ) (t : Tables) → AcceptedApp schema txns → slice_get txns request.txn ≡ Some txn
    → All (HasEntry txn (run schema txns request first t).trace) (run schema txns request first t).effects
