-- What a walk along a path holds, as ways and sketches have it.
use Rattle.std.specs.Prelude.{◌≡◌, ◌<◌, ◌||◌, ◌⊎◌, if◌then◌else◌, ℕ, suc, Bool, true, false, List, [], ◌∷◌, map, length, Option, Some, None, Result, Ok, Err}
use Rattle.std.specs.Borrow.{Bor}
use Rattle.std.specs.Option.{option_map}
use Rattle.sv_app.specs.declared.acts.Act.TheVariants as acts
use Rattle.sv_app.specs.declared.instances.Source.{Source}
use Rattle.sv_app.specs.declared.schemas.Column.{Column}
use Rattle.sv_app.specs.declared.schemas.Merge.{Merge}
use Rattle.sv_app.specs.declared.schemas.Table.{Table}
use Rattle.sv_app.specs.declared.schemas.Ty.TheVariants as types
use Rattle.sv_app.specs.Kinds.{is_grow_only}
use Rattle.sv_app.specs.Symbols.{is_key_column}
use Rattle.sv_app.specs.Paths.{Way, Tested, Path, put, kept_way, block_path}
use Rattle.sv_app.specs.Paths as paths
use Rattle.sv_app.specs.Schema.{Declaration, declaration_of, schema_of}
use Rattle.sv_app.specs.Trees.{Block}
use Rattle.sv_app.specs.Writes.{in_order}
use Rattle.sv_effect.specs.RunChanges.{outside_key}
use Rattle.sv_linear.specs.declared.effects.SymVal.{SymVal}
use Rattle.sv_linear.specs.declared.effects.SymWrite.{SymWrite}
use Rattle.sv_linear.specs.declared.forms.Form.{Form}
use Rattle.sv_linear.specs.declared.stops.FormStop.{FormStop}
use Rattle.sv_linear.specs.Codes.{form_of, sym_of, write_of, effect_of}
use Rattle.sv_linear.specs.Effects.{SymValue, Number}
use Rattle.sv_linear.specs.Effects as effects
use Rattle.sv_linear.specs.Forms as forms
use Rattle.sv_linear.specs.Sums.{IsStopOf}
use Rattle.sv_symbolic.specs.declared.names.Names.{Names}
use Rattle.sv_symbolic.specs.declared.settings.Setting.{Setting}
use Rattle.sv_symbolic.specs.declared.states.Flow.{Flow}
use Rattle.sv_symbolic.specs.declared.states.Flow.TheVariants as flows
use Rattle.sv_symbolic.specs.declared.states.State.{State}
use Rattle.sv_symbolic.specs.Routes.{Executed, executed, draw_block, first_sketch, Route, Aborts, TooFew, Leads, on_declared, with_effect, first_writes}
use Rattle.sv_symbolic.specs.Sketches.{Drawing, Sketch, Drawn, Draws, draw_form, Tried, Short, Tells}

abbrev pub names_in : Names → paths.Names
names_in n = record { types = n.types.items; tables = n.tables.items }

abbrev pub names_for : Setting → paths.Names
names_for g = record { types = g.types.now; tables = g.rows.now }

abbrev pub schema_for : Setting → List Declaration
schema_for g = schema_of g.tables.now

abbrev pub declared : Option (Bor Table) → Option Declaration
declared None = None
declared (Some table) = Some (declaration_of table.now)

abbrev pub sources_of : List (Source × SymVal) → List (Source × SymValue)
sources_of es = map (λ e. (e.0, sym_of e.1)) es

abbrev pub olds_of : List (ℕ × SymVal) → List (ℕ × SymValue)
olds_of es = map (λ e. (e.0, sym_of e.1)) es

abbrev pub syms_of : List SymVal → List SymValue
syms_of vs = map sym_of vs

abbrev pub way_of : State → Way
way_of s = record { left = s.left.now; known = s.known; known_old = s.known_old; symbols = s.symbols }

-- a product brings in a symbol unless one of its sides is a factor
abbrev pub product_way : Bool → Bool → Way → Way
product_way left right w = if left || right then w else put types.Int w

-- a counter's kept value is a symbol, unless rows are only added
abbrev pub kept_for : Bool → Merge → Way → Way
kept_for true merge w = w
kept_for false merge w = kept_way merge w

-- the same for each column outside the key, from one on
abbrev pub inserts_way : Declaration → ℕ → List Column → Way → Way
inserts_way table c [] w = w
inserts_way table c (column ∷ columns) w = inserts_way table (suc c) columns (if is_key_column table.key c then w else kept_for (is_grow_only table.kind) column.merge w)

abbrev pub listed : Option (ℕ × SymWrite) → List (ℕ × effects.SymWrite)
listed None = []
listed (Some w) = (w.0, write_of w.1) ∷ []

-- meant where the state is exact
abbrev pub drawing_of : State → Drawing
drawing_of s = record { sources = sources_of s.sources.items; olds = olds_of s.olds.items; facts = s.facts.items; effects = map effect_of s.effects; narrow = s.exact }

abbrev pub sketch_of : State → Sketch
sketch_of s = record { way = way_of s; drawing = drawing_of s }

-- a condition that holds or doesn't, or for which a choice is missing
abbrev pub tested_as : Option Bool → Way → Tested
tested_as None w = paths.Short
tested_as (Some holds) w = paths.Tells holds w

-- two conditions, one after the other
abbrev pub joined : (Bool → Bool → Bool) → Option Bool → Option Bool → Option Bool
joined op None g = None
joined op (Some h) g = option_map (op h) g

abbrev pub tried_as : Option Bool → Sketch → Tried
tried_as None k = Short
tried_as (Some holds) k = Tells holds k

abbrev pub path_as : Flow → Way → Path
path_as flows.On w = paths.Leads w
path_as flows.Aborted w = paths.Aborts w
path_as flows.Short w = paths.TooFew

abbrev pub route_as : Flow → Sketch → Route
route_as flows.On k = Leads k
route_as flows.Aborted k = Aborts k
route_as flows.Short k = TooFew

-- too many symbols, or a wide form: what is drawn on has no shape
abbrev pub IsLost : Sketch → Type 0
IsLost k = (64 < length k.way.symbols) ⊎ (k.drawing.narrow ≡ false)

abbrev pub LostDrawn : {A : Type 0} → Drawn A → Type 0
LostDrawn (Draws v k) = IsLost k

abbrev pub LostTried : Tried → Type 0
LostTried Short = Unit {0}
LostTried (Tells holds k) = IsLost k

abbrev pub LostRoute : Route → Type 0
LostRoute (Aborts k) = Unit {0}
LostRoute TooFew = Unit {0}
LostRoute (Leads k) = IsLost k

-- From one state to another this was drawn: just what the later one tells, if it is exact, and then the earlier one was. Where exactness was lost, it was for a reason.
pub record Told {R : Type 0} (Lost : R → Type 0) (before after : State) (drawn now : R) : Type 0 where
  pub exact : after.exact ≡ true → (before.exact ≡ true) × (drawn ≡ now)
  pub lost : before.exact ≡ true → after.exact ≡ false → Lost drawn

abbrev pub DrawsFrom : {A : Type 0} → State → State → Drawn A → A → Type 0
DrawsFrom before after drawn is = Told LostDrawn before after drawn (Draws is (sketch_of after))

abbrev pub TriesFrom : State → State → Tried → Option Bool → Type 0
TriesFrom before after tried holds = Told LostTried before after tried (tried_as holds (sketch_of after))

abbrev pub RoutesFrom : State → State → Route → Flow → Type 0
RoutesFrom before after route flow = Told LostRoute before after route (route_as flow (sketch_of after))

-- a call that would make this form answers with it, or says why there is none
abbrev pub IsMade : forms.Form → Result Form FormStop → Type 0
IsMade f (Ok g) = form_of g ≡ f
IsMade f (Err stop) = IsStopOf f stop

-- whichever form was to be made, it is drawn
pub record Holds (before after : State) (made : Result Form FormStop) (held : forms.Form) : Type 0 where
  pub each : (f : forms.Form) → IsMade f made → DrawsFrom before after (draw_form f (sketch_of before)) (Number held)

-- the effects of statements whose parts are drawn; a table that isn't declared has none
abbrev pub draw_fresh : ℕ → Option Declaration → List SymValue → Sketch → Route
draw_fresh table found vs k = on_declared found k (λ d y. Leads (with_effect (record { table = table; act = acts.Fresh; writes = first_writes (outside_key d 0 d.columns) vs }) y))

abbrev pub draw_update : ℕ → Option Declaration → List (ℕ × effects.SymWrite) → Sketch → Route
draw_update table found ws k = on_declared found k (λ d y. Leads (with_effect (record { table = table; act = acts.Update; writes = in_order d 0 d.columns ws }) y))

abbrev pub draw_remove : ℕ → Option Declaration → Sketch → Route
draw_remove table found k = on_declared found k (λ d y. Leads (with_effect (record { table = table; act = acts.Remove; writes = [] }) y))

-- A walk along choices ended so: its way is the path's, and what it drew is the route's.
pub record Walked (schema : List Declaration) (names : paths.Names) (body : Block) (choices : List Bool) (state : State) : Type 0 where
  pub flow : Flow
  pub path : path_as flow (way_of state) ≡ block_path schema names body (first_sketch choices).way
  pub exact : state.exact ≡ true → draw_block schema names body (first_sketch choices) ≡ route_as flow (sketch_of state)
  pub lost : state.exact ≡ false → LostRoute (draw_block schema names body (first_sketch choices))

-- what the walk comes to, at a sketch that has its way: just its drawing, or none for a reason
pub record ComesTo (state : State) (answer : Executed) : Type 0 where
  pub each : (end : Sketch) → end.way ≡ way_of state → (state.exact ≡ true → end ≡ sketch_of state) → (state.exact ≡ false → IsLost end) → executed end ≡ answer
