-- The turns of loops: what a turn means, and how it begins.
use Rattle.std.specs.Prelude.{◌≡◌, ℕ, List, [], ◌∷◌, Option, Some, None, map}
use Rattle.std.specs.Option.{option_map}
use Rattle.sv_value.specs.declared.values.Key.{Key}
use Rattle.sv_value.specs.declared.values.Val.{Val}
use Rattle.sv_app.specs.declared.apps.Ident.{Ident}
use Rattle.sv_app.specs.declared.schemas.Ty.TheVariants as types
use Rattle.sv_app.specs.Fitting.{HasType}
use Rattle.sv_app.specs.Schema.{Declaration}
use Rattle.sv_app.specs.Scopes.{Scope}
use Rattle.sv_app.specs.Tables.{Tables}
use Rattle.sv_app.specs.Trees.{Test, ForRows, ForEach, Block}
use Rattle.sv_app.specs.Units.{loop_variables, unit_of}
use Rattle.sv_effect.specs.Faces.{Face}
use Rattle.sv_effect.specs.Follows.{Follows}
use Rattle.sv_effect.specs.Reads.{ReadValue}
use Rattle.sv_effect.specs.Run as run
use Rattle.sv_effect.specs.Run.{Stand, Flow, Goes, run_block, row_turn, item_turn, meeting, only, present_keys, closed}
use Rattle.sv_effect.specs.RunValues as values
use Rattle.sv_interp.specs.declared.scopes.Progress.{Progress}
use Rattle.sv_interp.specs.declared.settings.Turn.{Turn}
use Rattle.sv_interp.specs.declared.settings.Turn.TheVariants as turn
use Rattle.sv_interp.specs.declared.states.State.{State}
use Rattle.sv_interp.specs.Machine.{progress_of, stand, calm, closing}
use Rattle.sv_trace.specs.Standing.{Frame, BlockIn, CommandIn, Holds, Passes, Turned}

-- a turn of a loop with this body
abbrev pub turn_of : (Stand → Flow) → Turn → Stand → Flow
turn_of body (turn.Item unit x v) = item_turn unit x body v
turn_of body (turn.Row unit r table k) = row_turn unit r table body k

-- with a block as the body
abbrev pub turn_in : run.Setting → Block → Turn → Stand → Flow
turn_in g body = turn_of (run_block g body)

-- the turns over items, and over the rows of keys
abbrev pub item_turns : ℕ → ℕ → List Val → List Turn
item_turns unit x vs = map (λ v. turn.Item unit x v) vs

abbrev pub row_turns : ℕ → ℕ → ℕ → List Key → List Turn
row_turns unit r table ks = map (λ k. turn.Row unit r table k) ks

-- the turns over the rows of these tables that meet a condition, each evaluated in a scope of its own
abbrev pub turns_selected : List ℕ → Ident → Ident → Option Test → Tables → values.Scope → Option (List Turn)
turns_selected loops r table test t s = option_map (row_turns (unit_of loops r.num) r.num table.num) (only (meeting r.num table.num test t (present_keys t table.num) s))

-- they are over rows of that table, whichever
pub record AreRowTurns (unit r table : ℕ) (ts : List Turn) : Type 0 where
  pub keys : List Key
  pub are : ts ≡ row_turns unit r table keys

-- what is left of a turn that began: its body, and the end of its instance; nothing of one that is skipped
abbrev pub entered : Option Progress → (Stand → Flow) → Stand → Flow
entered None body st = Goes st
entered (Some outer) body st = closing (progress_of outer) body st

-- a turn began, whatever its body is
pub record Enters (t : Turn) (face_before face_now : Face) (before now : Option (List ReadValue)) (s : State) (outer : Option Progress) (s' : State) : Type 0 where
  pub ran : Follows face_before face_now before now (λ tables. (body : Stand → Flow) → turn_of body t (stand tables s) ≡ entered outer body (stand tables s'))

abbrev pub EntersOn : {Rows : Type 0} → (Rows → Face) → (Rows → Option (List ReadValue)) → Rows → Rows → Turn → State → Option Progress → State → Type 0
EntersOn face noted before after t s outer s' = Enters t (face before) (face after) (noted before) (noted after) s outer s'

-- a turn of a loop over rows, and one of a loop over items, of a transaction
pub record RowTurnIn (f : Frame) (at : Scope) (unit row table : ℕ) (body : Block) : Type 0 where
  pub variable : Ident
  pub of_table : Ident
  pub condition : Option Test
  pub command : CommandIn f at (ForRows variable of_table condition body)
  pub same_row : row ≡ variable.num
  pub same_table : table ≡ of_table.num
  pub same_unit : unit ≡ unit_of (loop_variables f.txn.body) row

pub record ItemTurnIn (f : Frame) (at : Scope) (unit variable : ℕ) (item : Val) (body : Block) : Type 0 where
  pub name : Ident
  pub list : Ident
  pub command : CommandIn f at (ForEach name list body)
  pub same_variable : variable ≡ name.num
  pub same_unit : unit ≡ unit_of (loop_variables f.txn.body) variable
  pub integer : HasType types.Int item

abbrev pub TurnIn : Frame → Scope → Block → Turn → Type 0
TurnIn f at body (turn.Item unit x v) = ItemTurnIn f at unit x v body
TurnIn f at body (turn.Row unit r table k) = RowTurnIn f at unit r table body

abbrev pub TurnsIn : Frame → Scope → Block → List Turn → Type 0
TurnsIn f at body [] = Unit {0}
TurnsIn f at body (t ∷ ts) = TurnIn f at body t × TurnsIn f at body ts

-- the body is to be run in a scope of its own, and behind it the instance is closed
pub record InTurn (f : Frame) (at : Scope) (body : Block) (st : Stand) (outer : values.Progress) (st' : Stand) : Type 0 where
  pub inner : Scope
  pub inside : BlockIn f inner body
  pub holds : Holds f inner st'
  pub closes : (mid : Stand) → Passes f inner body st' mid → Turned f at st (closed outer mid)

abbrev pub BegunTurn : Frame → Scope → Block → Stand → Option Progress → Stand → Type 0
BegunTurn f at body st None st' = Turned f at st st'
BegunTurn f at body st (Some outer) st' = InTurn f at body st (progress_of outer) st'

-- of each accepted transaction that is run on rows of its application, what holds before a turn holds where it began
pub record Begins (is_of : List Declaration → Type 0) (t : Turn) (s : State) (outer : Option Progress) (s' : State) : Type 0 where
  pub begins : (f : Frame) (at : Scope) (body : Block) → is_of f.schema → TurnIn f at body t → Holds f at (calm s) → BegunTurn f at body (calm s) outer (calm s')
