-- What executing a path answers: just what its route comes to.
use Rattle.std.specs.Prelude.{◌≡◌, ◌≤◌, ◌*◌, ℕ, ℤ, Bool, List, [], length, Some, slice_get, map, All}
use Rattle.sv_value.specs.declared.values.Val.{Val}
use Rattle.sv_app.specs.declared.instances.Instance.{Instance}
use Rattle.sv_app.specs.declared.requests.Request.{Request}
use Rattle.sv_app.specs.declared.txns.Txn.{Txn}
use Rattle.sv_app.specs.Accepted.{AcceptedApp}
use Rattle.sv_app.specs.Fitting.{ArgsFit}
use Rattle.sv_app.specs.Schema.{Declaration}
use Rattle.sv_app.specs.Tables.{Tables}
use Rattle.sv_app.specs.Trees.{Block, Transaction}
use Rattle.sv_app.specs.Units.{units}
use Rattle.sv_bounds.specs.declared.systems.Diff.{Diff}
use Rattle.sv_effect.specs.Run.{RunResult, run}
use Rattle.sv_linear.specs.declared.effects.Shape.{Shape as ShapeValue}
use Rattle.sv_linear.specs.Codes.{effect_of}
use Rattle.sv_linear.specs.Effects.{SymEffect}
use Rattle.sv_linear.specs.Facts.{facts_hold}
use Rattle.sv_paths.specs.Numbered.{Part, bodies_in, numbered_from}
use Rattle.sv_trace.specs.Laws.{RowsAreOf}
use Rattle.sv_symbolic.specs.declared.shapes.ShapeStop.{ShapeStop}
use Rattle.sv_symbolic.specs.declared.shapes.ShapeStop.TheVariants as stops
use Rattle.sv_symbolic.specs.Drawn.{change_on, changes_in}
use Rattle.sv_symbolic.specs.Named.{AreFacts, EffectsName}
use Rattle.sv_symbolic.specs.Routes.{Leads, draw_unit, Executed, Many, Wide, Shape, executed}
use Rattle.sv_symbolic.specs.Sketches.{Sketch}
use Rattle.sv_symbolic.specs.Suited.{IsSuited}

-- the units of a transaction with their numbers, as `units` answers them
abbrev pub parts_in : List Txn → ℕ → List Part
parts_in txns txn = numbered_from 0 txn (bodies_in txns txn)

-- the route of a unit of the transaction with this number leads along all these choices, and comes to this
pub record IsExecuted (schema : List Declaration) (txns : List Transaction) (number : ℕ) (body : Block) (choices : List Bool) (answer : Executed) : Type 0 where
  pub txn : Transaction
  pub declared : slice_get txns number ≡ Some txn
  pub end : Sketch
  pub route : draw_unit schema txn body choices ≡ Leads end
  pub whole : end.way.left ≡ []
  pub comes : executed end ≡ answer

abbrev pub effects_of : ShapeValue → List SymEffect
effects_of shape = map effect_of shape.effects

abbrev pub shape_as : ShapeValue → Executed
shape_as shape = Shape shape.facts (effects_of shape) shape.symbols

-- why there is no shape, of a path for which it is said what it comes to
abbrev pub IsCause : (Executed → Type 0) → ShapeStop → Type 0
IsCause Comes stops.Many = Comes Many
IsCause Comes stops.Wide = Comes Wide
IsCause Comes stops.NoMemory = Unit {0}

-- facts and effects name symbols from 1 to at most 64, and there are at most two facts for each choice
pub record IsClosedShape (choices : List Bool) (shape : ShapeValue) : Type 0 where
  pub symbols : shape.symbols ≤ 64
  pub facts : AreFacts shape.symbols shape.facts
  pub few : length shape.facts ≤ 2 * length choices
  pub effects : EffectsName shape.symbols (effects_of shape)

-- on any tape the effects are writes as changes have them
pub record SuitsAlways (schema : List Declaration) (effects : List SymEffect) : Type 0 where
  pub each : (tape : List Val) → All (IsSuited schema tape) effects

-- a shape tells of an instance: its symbols are those of the tape, its facts hold there, and its effects have there the values of the changes
pub record TellsOf (facts : List Diff) (effects : List SymEffect) (symbols : ℕ) (n : ℕ) (instance : Instance) (ran : RunResult) : Type 0 where
  pub symbols_are : length instance.tape ≡ symbols
  pub facts_are : facts_hold instance.tape facts
  pub effects_are : map (change_on instance.tape) effects ≡ changes_in n ran.effects

-- of each run of an accepted application on rows of its tables: where an entry of the trace went along the path of a unit that comes to a shape, the shape tells of the entry
abbrev pub ShapesTell : Type 0
ShapesTell = (schema : List Declaration) (txns : List Transaction) (request : Request) (txn : Transaction) (first : ℤ) (t : Tables) (n : ℕ) (instance : Instance) (body : Block) (facts : List Diff) (effects : List SymEffect) (symbols : ℕ)
    → AcceptedApp schema txns → slice_get txns request.txn ≡ Some txn → ArgsFit txn.params request.args → RowsAreOf schema t
    → slice_get (run schema txns request first t).trace n ≡ Some instance → slice_get (units txn.body) instance.unit ≡ Some body
    → IsExecuted schema txns request.txn body instance.choices (Shape facts effects symbols)
    → TellsOf facts effects symbols n instance (run schema txns request first t)
