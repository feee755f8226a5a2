-- What steps of the interpreter keep, whatever the rows answer: of each accepted transaction that is run on rows of its application, what holds where a
-- run stands holds again after the step.
use Rattle.std.specs.Prelude.{◌≡◌, List, Option, None}
use Rattle.std.specs.FinMap.{get}
use Rattle.sv_app.specs.declared.places.Place.{Place}
use Rattle.sv_app.specs.Schema.{Declaration}
use Rattle.sv_app.specs.Scopes.{Scope}
use Rattle.sv_app.specs.Tables.{Row, Tables}
use Rattle.sv_app.specs.Trees.{Command, Block}
use Rattle.sv_app.specs.Units.{loop_variables}
use Rattle.sv_effect.specs.declared.outcomes.Outcome.{Outcome}
use Rattle.sv_effect.specs.Run as run
use Rattle.sv_effect.specs.Run.{Stand, Flow, Goes, closed, left_loop}
use Rattle.sv_effect.specs.RunValues.{Progress}
use Rattle.sv_interp.specs.declared.settings.Turn.{Turn}
use Rattle.sv_interp.specs.declared.states.State.{State}
use Rattle.sv_interp.specs.Machine.{calm}
use Rattle.sv_interp.specs.Turning.{TurnsIn}
use Rattle.sv_trace.specs.Standing.{Frame, IsFrame, RowAt, BlockIn, CommandIn, Holds, Passes, Makes, Turned}

-- the run is one of the transaction
pub record IsSettingOf (f : Frame) (g : run.Setting) : Type 0 where
  pub schema : g.schema ≡ f.schema
  pub first : g.first ≡ f.first
  pub loops : g.loops ≡ loop_variables f.txn.body

-- a block in a turn of a loop, with the instance closed behind it
pub record Closes (f : Frame) (at : Scope) (b : Block) (outer : Progress) (st end : Stand) : Type 0 where
  pub mid : Stand
  pub passes : Passes f at b st mid
  pub closes : end ≡ closed outer mid

-- some turns of a loop, and what is known behind them
pub record Looped (f : Frame) (at : Scope) (body : Block) (st end : Stand) : Type 0 where
  pub mid : Stand
  pub turned : Turned f at st mid
  pub leaves : left_loop body mid ≡ Goes end

-- what is run: a block, a statement, a block in a turn of a loop, turns of a loop, or a loop
pub data Part : Type 0 where
  Statements : Block → Part
  Statement : Command → Part
  Inside : Block → Progress → Part
  Turns : List Turn → Block → Part
  Loop : List Turn → Block → Part

abbrev pub PartIn : Frame → Scope → Part → Type 0
PartIn f at (Statements b) = BlockIn f at b
PartIn f at (Statement c) = CommandIn f at c
PartIn f at (Inside b outer) = BlockIn f at b
PartIn f at (Turns ts body) = TurnsIn f at body ts
PartIn f at (Loop ts body) = TurnsIn f at body ts

abbrev pub Stands : Frame → Scope → Part → Stand → Stand → Type 0
Stands f at (Statements b) = Passes f at b
Stands f at (Statement c) = Makes f at c
Stands f at (Inside b outer) = Closes f at b outer
Stands f at (Turns ts body) = Turned f at
Stands f at (Loop ts body) = Looped f at body

pub record Keeps (is_of : List Declaration → Type 0) (g : run.Setting) (part : Part) (s : State) (end : Option Outcome) (s' : State) : Type 0 where
  pub keeps : (f : Frame) (at : Scope) → IsFrame f → IsSettingOf f g → is_of f.schema → PartIn f at part → Holds f at (calm s) → end ≡ None → Stands f at part (calm s) (calm s')

-- the rows that a run wrote itself fit the schema
abbrev pub AreFit : List Declaration → Tables → Type 0
AreFit schema t = (p : Place) → RowAt schema p (get t p)

-- a step that a row was looked up for: the row fits its place, and the step is made with it
pub record Found (schema : List Declaration) (p : Place) (step : Option Row → Flow) (end : Stand) : Type 0 where
  pub row : Option Row
  pub fits : RowAt schema p row
  pub made : step row ≡ Goes end

pub record LooksUp (is_of : List Declaration → Type 0) (p : Place) (step : Option Row → Stand → Flow) (s : State) (end : Option Outcome) (s' : State) : Type 0 where
  pub finds : (schema : List Declaration) → is_of schema → AreFit schema (calm s).tables → end ≡ None → Found schema p (λ row. step row (calm s)) (calm s')
