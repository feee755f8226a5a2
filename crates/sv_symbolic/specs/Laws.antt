-- What routes promise: they go along exactly as paths do, they name only their symbols, and of each run of an accepted application on rows of its tables
-- the forms have the values.
use Rattle.std.specs.Prelude.{◌≡◌, ◌≤◌, ◌+◌, ◌*◌, ℕ, ℤ, Bool, List, length, Some, slice_get}
use Rattle.sv_app.specs.declared.instances.Instance.{Instance}
use Rattle.sv_app.specs.declared.requests.Request.{Request}
use Rattle.sv_app.specs.Accepted.{AcceptedApp}
use Rattle.sv_app.specs.Fitting.{ArgsFit}
use Rattle.sv_app.specs.Paths.{Path, unit_path}
use Rattle.sv_app.specs.Paths as paths
use Rattle.sv_app.specs.Schema.{Declaration}
use Rattle.sv_app.specs.Tables.{Tables}
use Rattle.sv_app.specs.Trees.{Block, Transaction}
use Rattle.sv_effect.specs.Run.{RunResult, run}
use Rattle.sv_trace.specs.Laws.{RowsAreOf}
use Rattle.sv_symbolic.specs.Drawn.{IsDrawn, changes_in}
use Rattle.sv_symbolic.specs.Named.{AreFacts, EffectsName}
use Rattle.sv_symbolic.specs.Routes.{Route, Aborts, TooFew, Leads, draw_unit}
use Rattle.sv_symbolic.specs.Sketches.{Sketch}

-- a route without what is drawn
abbrev pub path_in : Route → Path
path_in (Aborts k) = paths.Aborts k.way
path_in TooFew = paths.TooFew
path_in (Leads k) = paths.Leads k.way

abbrev pub RoutesArePaths : Type 0
RoutesArePaths = (schema : List Declaration) (txn : Transaction) (body : Block) (choices : List Bool) → path_in (draw_unit schema txn body choices) ≡ unit_path schema txn body choices

-- also on a path that no run takes: facts and effects name its symbols alone, and a choice gives at most two facts
pub record IsClosed (choices : List Bool) (end : Sketch) : Type 0 where
  pub facts : AreFacts (length end.way.symbols) end.drawing.facts
  pub few : length end.drawing.facts + 2 * length end.way.left ≤ 2 * length choices
  pub effects : EffectsName (length end.way.symbols) end.drawing.effects

abbrev pub RoutesAreClosed : Type 0
RoutesAreClosed = (schema : List Declaration) (txn : Transaction) (body : Block) (choices : List Bool) (end : Sketch) → draw_unit schema txn body choices ≡ Leads end → IsClosed choices end

-- each entry of the trace is drawn by the changes that are its own; a run that isn't done has an empty trace
abbrev pub AllDrawn : List Declaration → Transaction → RunResult → Type 0
AllDrawn schema txn ran = (n : ℕ) (instance : Instance) → slice_get ran.trace n ≡ Some instance → IsDrawn schema txn (changes_in n ran.effects) instance

abbrev pub FormsHold : Type 0
FormsHold = (schema : List Declaration) (txns : List Transaction) (request : Request) (txn : Transaction) (first : ℤ) (t : Tables) → AcceptedApp schema txns → slice_get txns request.txn ≡ Some txn → ArgsFit txn.params request.args
    → RowsAreOf schema t → AllDrawn schema txn (run schema txns request first t)
