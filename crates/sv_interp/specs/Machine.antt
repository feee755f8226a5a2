-- What the interpreter holds, as the meaning of a run speaks of it.
use Rattle.std.specs.Prelude.{◌≡◌, List, [], ◌∷◌, Option, Some, None, map}
use Rattle.std.specs.Borrow.{Bor}
use Rattle.std.specs.FinMap.{empty}
use Rattle.sv_app.specs.declared.schemas.Table.{Table}
use Rattle.sv_app.specs.Schema.{Declaration, declaration_of, schema_of}
use Rattle.sv_app.specs.Tables.{Tables}
use Rattle.sv_app.specs.declared.txns.Stmt.{Stmt}
use Rattle.sv_app.specs.Trees.{Block, Finish, Then, command_of, block_of}
use Rattle.sv_effect.specs.declared.outcomes.Outcome.{Outcome}
use Rattle.sv_effect.specs.Faces.{Face}
use Rattle.sv_effect.specs.Follows.{Follows}
use Rattle.sv_effect.specs.Overlays.{over}
use Rattle.sv_effect.specs.Reads.{ReadValue}
use Rattle.sv_effect.specs.Run as run
use Rattle.sv_effect.specs.Run.{Stand, Flow, Goes, Ends, then_do, turns, closed, left_loop}
use Rattle.sv_effect.specs.RunChanges.{effect_of}
use Rattle.sv_effect.specs.RunValues as values
use Rattle.sv_effect.specs.RunValues.{Evaluated, Leaves, Gives}
use Rattle.sv_interp.specs.declared.scopes.Progress.{Progress}
use Rattle.sv_interp.specs.declared.scopes.Scope.{Scope}
use Rattle.sv_interp.specs.declared.settings.Setting.{Setting}
use Rattle.sv_interp.specs.declared.states.State.{State}

abbrev pub progress_of : Progress → values.Progress
progress_of p = record { unit = p.unit; number = p.number; choices = p.choices; tape = p.tape; known = p.known; known_old = p.known_old }

abbrev pub scope_of : Scope → values.Scope
scope_of s = record { values = s.values.items; rows = s.rows.items; old = s.before; progress = progress_of s.progress }

abbrev pub as_evaluated : {A : Type 0} → Option A → values.Scope → Evaluated A
as_evaluated None s = Leaves
as_evaluated (Some v) s = Gives v s

-- a value and the scope after it, or none where an integer left 64 bits
abbrev pub evaluated : {A : Type 0} → Option A → Scope → Evaluated A
evaluated None s = Leaves
evaluated (Some v) s = Gives v (scope_of s)

abbrev pub listed : {A : Type 0} → Option A → List A
listed None = []
listed (Some x) = x ∷ []

abbrev pub declared : Option (Bor Table) → Option Declaration
declared None = None
declared (Some table) = Some (declaration_of table.now)

-- where a run stands: the rows that it wrote itself, the latest first, over given tables
abbrev pub stand : Tables → State → Stand
stand t s = record { scope = scope_of s.scope; tables = over s.own.items t; effects = map effect_of s.effects.list; replies = s.replies; instances = s.instances }

-- where a run stands, over no tables: the rows that it wrote itself are in it
abbrev pub calm : State → Stand
calm s = stand empty s

abbrev pub flow_of : Option Outcome → Stand → Flow
flow_of None st = Goes st
flow_of (Some o) st = Ends o

abbrev pub setting_of : Setting → run.Setting
setting_of g = record { schema = schema_of g.tables.now; arguments = g.args.now; first = g.first; loops = g.loops.now }

-- What a step did between two moments, with the rows and with the state: it is what the meaning does, of all tables that agree with the answers given.
pub record Runs (meaning : Stand → Flow) (face_before face_now : Face) (before now : Option (List ReadValue)) (s : State) (end : Option Outcome) (s' : State) : Type 0 where
  pub ran : Follows face_before face_now before now (λ t. meaning (stand t s) ≡ flow_of end (stand t s'))

-- a call on rows learned a fact of their tables
abbrev pub Learns : {Rows : Type 0} → (Rows → Face) → (Rows → Option (List ReadValue)) → Rows → Rows → (Tables → Type 0) → Type 0
Learns face noted before after Fact = Follows (face before) (face after) (noted before) (noted after) Fact

-- a step, with the rows and the state before and after it
abbrev pub RunsOn : {Rows : Type 0} → (Rows → Face) → (Rows → Option (List ReadValue)) → Rows → Rows → (Stand → Flow) → State → Option Outcome → State → Type 0
RunsOn face noted before after meaning s end s' = Runs meaning (face before) (face after) (noted before) (noted after) s end s'

-- a block by its first command and the others
abbrev pub Splits : Block → Option (Bor Stmt × Bor (List Stmt)) → Type 0
Splits b None = b ≡ Finish
Splits b (Some p) = b ≡ Then (command_of p.0.now) (block_of p.1.now)

-- a block in a turn of a loop: the instance ends behind it
abbrev pub closing : values.Progress → (Stand → Flow) → Stand → Flow
closing outer body st = then_do (body st) (λ z. Goes (closed outer z))

-- a loop: its turns, and what is known behind them
abbrev pub looping : {A : Type 0} → List A → (A → Stand → Flow) → Block → Stand → Flow
looping xs turn body st = then_do (turns xs turn st) (left_loop body)

-- Some turns were made, and the others are left.
pub record Reaches {A : Type 0} (xs left : List A) (turn : A → Stand → Flow) (face_before face_now : Face) (before now : Option (List ReadValue)) (s s' : State) : Type 0 where
  pub ran : Follows face_before face_now before now (λ t. turns xs turn (stand t s) ≡ turns left turn (stand t s'))
