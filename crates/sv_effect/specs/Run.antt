-- The meaning of a run: what a transaction does to whole tables, statement by statement, each write made at once.
use Rattle.std.specs.Prelude.{ℕ, ℤ, suc, nat_lt, ◌==◌, ◌&&◌, if◌then◌else◌, Bool, true, false, List, [], ◌∷◌, ◌++◌, length, map, Option, Some, None, slice_get}
use Rattle.std.specs.FinMap.{get, insert, entries}
use Rattle.sv_value.specs.declared.values.Key.{Key}
use Rattle.sv_value.specs.declared.values.Val.{Val}
use Rattle.sv_value.specs.declared.values.Val.TheVariants.{Int, Text as IsText}
use Rattle.sv_app.specs.declared.acts.Act.TheVariants as acts
use Rattle.sv_app.specs.declared.apps.Ident.{Ident}
use Rattle.sv_app.specs.declared.gots.Got.{Got}
use Rattle.sv_app.specs.declared.instances.Instance.{Instance}
use Rattle.sv_app.specs.declared.instances.Source.TheVariants as sources
use Rattle.sv_app.specs.declared.places.Place.{Place}
use Rattle.sv_app.specs.declared.requests.Arg.{Arg}
use Rattle.sv_app.specs.declared.requests.Arg.TheVariants as args
use Rattle.sv_app.specs.declared.requests.Request.{Request}
use Rattle.sv_app.specs.Schema.{Declaration}
use Rattle.sv_app.specs.Slots.{with_item}
use Rattle.sv_app.specs.Symbols.{block_assigns, known_after}
use Rattle.sv_app.specs.Tables.{Row, Tables}
use Rattle.sv_app.specs.Trees.{Term, Test, Command, Declare, Assign, Fetch, Choose, ForRows, ForEach, Insert, Fresh, Update, Remove, Abort, Reply, Block, Finish, Then, Transaction}
use Rattle.sv_app.specs.Units.{loop_variables, unit_of}
use Rattle.sv_effect.specs.declared.ops.Need.{Need}
use Rattle.sv_effect.specs.declared.outcomes.Outcome.{Outcome}
use Rattle.sv_effect.specs.declared.outcomes.Outcome.TheVariants as outcomes
use Rattle.sv_effect.specs.declared.outcomes.Ran.{Ran}
use Rattle.sv_effect.specs.Needs.{needs_of}
use Rattle.sv_effect.specs.RunChanges.{Effect, effect_of, key_of, key_in, with_writes, sets_made, in_order, inserts, kept_values, stands, drawn_writes, drawn_key}
use Rattle.sv_effect.specs.RunValues.{nothing, Progress, Scope, with_progress, forgetting, put, Evaluated, Leaves, Gives, then_value, value_of, values_of, truth_of}

-- what a run is made of: the schema, the arguments, the first key that it draws, and the variables of its loops in the order of the text
pub record Setting : Type 0 where
  pub schema : List Declaration
  pub arguments : List Arg
  pub first : ℤ
  pub loops : List ℕ

-- where a run stands
pub record Stand : Type 0 where
  pub scope : Scope
  pub tables : Tables
  pub effects : List Effect
  pub replies : List Val
  pub instances : List Instance

-- after a statement a run goes on or has ended
pub data Flow : Type 0 where
  Goes : Stand → Flow
  Ends : Outcome → Flow

abbrev pub then_do : Flow → (Stand → Flow) → Flow
then_do (Goes st) go = go st
then_do (Ends o) go = Ends o

abbrev pub with_scope : Stand → Scope → Stand
with_scope st s = record st { scope = s }

-- a number that leaves 64 bits ends the run
abbrev pub on_value : {A : Type 0} → Evaluated A → Stand → (A → Stand → Flow) → Flow
on_value Leaves st go = Ends outcomes.Range
on_value (Gives v s) st go = go v (with_scope st s)

abbrev pub on_truth : Evaluated Bool → Stand → (Stand → Flow) → (Stand → Flow) → Flow
on_truth Leaves st f g = Ends outcomes.Range
on_truth (Gives true s) st f g = f (with_scope st s)
on_truth (Gives false s) st f g = g (with_scope st s)

-- a variable gets a value, and has its form
abbrev pub with_value : ℕ → Val → Scope → Scope
with_value x v s = record s { values = with_item nothing x v s.values }

abbrev pub is_formed : ℕ → Progress → Progress
is_formed x p = record p { known = p.known ++ sources.Variable x ∷ [] }

abbrev pub assigned : ℕ → Val → Stand → Stand
assigned x v st = with_scope st (with_progress (with_value x v st.scope) (is_formed x st.scope.progress))

abbrev pub with_row : ℕ → List Got → Scope → Scope
with_row r values s = record s { rows = with_item [] r values s.rows }

abbrev pub place_of_row : Ident → List Val → Place
place_of_row table key = record { table = table.num; key = key_of key }

-- a row that isn't present ends the run
abbrev pub on_present : Option Row → (Row → Flow) → Flow
on_present None go = Ends outcomes.NoRow
on_present (Some row) go = if row.present then go row else Ends outcomes.NoRow

abbrev pub on_table : Option Declaration → (Declaration → Flow) → Flow
on_table None go = Ends outcomes.NoRow
on_table (Some table) go = go table

abbrev pub fetched : ℕ → Stand → Row → Flow
fetched r st row = Goes (with_scope st (with_row r row.values st.scope))

-- the 65th change isn't made
abbrev pub changed : Effect → Row → Stand → Flow
changed e row st = if nat_lt (length st.effects) 64
    then Goes (record st { tables = insert st.tables e.place row; effects = st.effects ++ e ∷ [] })
    else Ends outcomes.TooLarge

abbrev pub row_with : List Got → Bool → Row
row_with values present = record { values = values; present = present }

-- `old` is the row before the update
abbrev pub updating : List Got → Scope → Scope
updating values s = record s { old = values; progress = forgetting s.progress }

-- and behind it no column of that row is known
abbrev pub update_over : Stand → Stand
update_over st = with_scope st (with_progress st.scope (forgetting st.scope.progress))

abbrev pub updated : Declaration → Place → List (Ident × Term) → Stand → Row → Flow
updated table p sets st row = on_value (sets_made table.columns sets (updating row.values st.scope)) st (λ ws z.
    let writes = in_order table 0 table.columns ws in
    changed (record { place = p; act = acts.Update; writes = writes; instance = z.scope.progress.number }) (row_with (with_writes writes row.values) true) (update_over z))

abbrev pub inserted : Declaration → Place → List Val → Option Row → Stand → Flow
inserted table p vs row st = if stands row then Ends outcomes.Exists else
    on_value (inserts table vs (kept_values table p.key row) 0 table.columns st.scope) st (λ writes z.
    changed (record { place = p; act = acts.Insert; writes = writes; instance = z.scope.progress.number }) (row_with (with_writes writes (kept_values table p.key row)) true) z)

-- a row under a drawn key is present, and the variable gets the key, which is a symbol brought in last
abbrev pub with_symbol : Val → Stand → Stand
with_symbol v st = with_scope st (with_progress st.scope (put v st.scope.progress))

abbrev pub drawn : ℕ → Declaration → Place → List Val → Option Row → Stand → Flow
drawn x table p vs (Some row) st = Ends outcomes.Exists
drawn x table p vs None st = let writes = drawn_writes table vs in
    changed (record { place = p; act = acts.Fresh; writes = writes; instance = st.scope.progress.number })
    (row_with (with_writes writes (kept_values table p.key None)) true) (assigned x p.key.first (with_symbol p.key.first st))

abbrev pub removed : Place → Stand → Row → Flow
removed p st row = changed (record { place = p; act = acts.Remove; writes = []; instance = st.scope.progress.number }) (row_with row.values false) st

-- the 17th reply isn't given
abbrev pub replied : Val → Stand → Flow
replied v st = if nat_lt (length st.replies) 16 then Goes (record st { replies = st.replies ++ v ∷ [] }) else Ends outcomes.TooLarge

-- the keys of the present rows of a table, in order
abbrev pub keys_among : ℕ → List (Place × Row) → List Key
keys_among table [] = []
keys_among table (e ∷ es) = if table == e.0.table && e.1.present then e.0.key ∷ keys_among table es else keys_among table es

abbrev pub present_keys : Tables → ℕ → List Key
present_keys t table = keys_among table (entries t)

abbrev pub values_at : Option Row → List Got
values_at None = []
values_at (Some row) = row.values

abbrev pub kept_if : Bool → Key → List Key → List Key
kept_if holds k ks = if holds then k ∷ ks else ks

-- those of the keys whose rows meet the condition; it is evaluated in a scope of its own
abbrev pub meeting_test : ℕ → ℕ → Test → Tables → List Key → Scope → Evaluated (List Key)
meeting_test r table test t [] s = Gives [] s
meeting_test r table test t (k ∷ ks) s = then_value (truth_of test (with_row r (values_at (get t (record { table = table; key = k }))) s))
    (λ holds u. then_value (meeting_test r table test t ks u) (λ met z. Gives (kept_if holds k met) z))

abbrev pub meeting : ℕ → ℕ → Option Test → Tables → List Key → Scope → Evaluated (List Key)
meeting r table None t ks s = Gives ks s
meeting r table (Some test) t ks s = meeting_test r table test t ks s

-- what evaluation gives, without its scope
abbrev pub only : {A : Type 0} → Evaluated A → Option A
only Leaves = None
only (Gives x s) = Some x

abbrev pub on_keys : Option (List Key) → (List Key → Flow) → Flow
on_keys None go = Ends outcomes.Range
on_keys (Some ks) go = go ks

-- one turn for each item
abbrev pub turns : {A : Type 0} → List A → (A → Stand → Flow) → Stand → Flow
turns [] turn st = Goes st
turns (x ∷ xs) turn st = then_do (turn x st) (turns xs turn)

-- each turn is an instance of its own, in which no source is known at first
abbrev pub beginning : ℕ → ℕ → Progress
beginning unit number = record { unit = unit; number = number; choices = []; tape = []; known = []; known_old = [] }

abbrev pub instance_of : Progress → Instance
instance_of p = record { unit = p.unit; choices = p.choices; tape = p.tape }

abbrev pub begun : ℕ → Stand → Stand
begun unit st = with_scope st (with_progress st.scope (beginning unit (suc (length st.instances))))

abbrev pub closed : Progress → Stand → Stand
closed outer st = record st { scope = with_progress st.scope outer; instances = st.instances ++ instance_of st.scope.progress ∷ [] }

abbrev pub instance : ℕ → (Stand → Flow) → Stand → Flow
instance unit body st = then_do (body (begun unit st)) (λ z. Goes (closed st.scope.progress z))

-- a row that is no longer present is skipped
abbrev pub if_present : Option Row → (Row → Stand → Flow) → Stand → Flow
if_present None go st = Goes st
if_present (Some row) go st = if row.present then go row st else Goes st

abbrev pub row_turn : ℕ → ℕ → ℕ → (Stand → Flow) → Key → Stand → Flow
row_turn unit r table body k st = if_present (get st.tables (record { table = table; key = k })) (λ row. instance unit (λ z. body (with_scope z (with_row r row.values z.scope)))) st

abbrev pub item_turn : ℕ → ℕ → (Stand → Flow) → Val → Stand → Flow
item_turn unit x body v st = instance unit (λ z. body (with_scope z (with_value x v z.scope))) st

-- after a loop the variables that its body assigns have new sources
abbrev pub left_loop : Block → Stand → Flow
left_loop body st = Goes (with_scope st (with_progress st.scope (record st.scope.progress { known = known_after (block_assigns body) st.scope.progress.known })))

abbrev pub items_of : Option Arg → List Val
items_of (Some (args.Ints ns)) = map (λ n. Int n) ns
items_of _ = []

abbrev mutual
  pub run_command : Setting → Command → Stand → Flow
  run_command g (Declare x e) st = on_value (value_of e st.scope) st (λ v z. Goes (assigned x.num v z))
  run_command g (Assign x e) st = on_value (value_of e st.scope) st (λ v z. Goes (assigned x.num v z))
  run_command g (Fetch r table key) st = on_value (values_of key st.scope) st (λ vs z. on_present (get z.tables (place_of_row table vs)) (fetched r.num z))
  run_command g (Choose test ys ns) st = on_truth (truth_of test st.scope) st (run_block g ys) (run_block g ns)
  run_command g (ForRows r table test body) st = on_keys (only (meeting r.num table.num test st.tables (present_keys st.tables table.num) st.scope))
      (λ ks. then_do (turns ks (row_turn (unit_of g.loops r.num) r.num table.num (run_block g body)) st) (left_loop body))
  run_command g (ForEach x list body) st = then_do (turns (items_of (slice_get g.arguments list.num)) (item_turn (unit_of g.loops x.num) x.num (run_block g body)) st) (left_loop body)
  run_command g (Insert table values) st = on_value (values_of values st.scope) st (λ vs z. on_table (slice_get g.schema table.num) (λ t.
      let p : Place = record { table = table.num; key = key_in t.key vs } in inserted t p vs (get z.tables p) z))
  run_command g (Fresh x table values) st = on_value (values_of values st.scope) st (λ vs z. on_table (slice_get g.schema table.num) (λ t.
      let p : Place = record { table = table.num; key = drawn_key g.first z.effects } in drawn x.num t p vs (get z.tables p) z))
  run_command g (Update table key sets) st = on_value (values_of key st.scope) st (λ vs z. on_table (slice_get g.schema table.num) (λ t.
      on_present (get z.tables (place_of_row table vs)) (updated t (place_of_row table vs) sets z)))
  run_command g (Remove table key) st = on_value (values_of key st.scope) st (λ vs z. on_present (get z.tables (place_of_row table vs)) (removed (place_of_row table vs) z))
  run_command g (Abort n) st = Ends (outcomes.Abort n)
  run_command g (Reply e) st = on_value (value_of e st.scope) st replied

  pub run_block : Setting → Block → Stand → Flow
  run_block g Finish st = Goes st
  run_block g (Then c b) st = then_do (run_command g c st) (run_block g b)

-- what a run comes to
pub record RunResult : Type 0 where
  pub outcome : Outcome
  pub effects : List Effect
  pub needs : List Need
  pub trace : List Instance

abbrev pub ran_of : Ran → RunResult
ran_of ran = record { outcome = ran.outcome; effects = map effect_of ran.effects; needs = ran.needs; trace = ran.trace }

abbrev pub result_of : List Declaration → Flow → RunResult
result_of schema (Goes st) = record { outcome = outcomes.Done st.replies; effects = st.effects; needs = needs_of schema st.effects; trace = instance_of st.scope.progress ∷ st.instances }
result_of schema (Ends o) = record { outcome = o; effects = []; needs = []; trace = [] }

-- the value of a parameter, which has its number; a list has none
abbrev pub argument : Arg → Val
argument (args.Int n) = Int n
argument (args.Text t) = IsText t
argument (args.Ints ns) = nothing

abbrev pub body_of : Option Transaction → Block
body_of None = Finish
body_of (Some txn) = txn.body

abbrev pub started : List Arg → Tables → Stand
started arguments t = record {
  scope = record { values = map argument arguments; rows = []; old = []; progress = beginning 0 0 };
  tables = t;
  effects = [];
  replies = [];
  instances = [];
}

abbrev pub flow_of_body : List Declaration → Block → List Arg → ℤ → Tables → Flow
flow_of_body schema body arguments first t = run_block (record { schema = schema; arguments = arguments; first = first; loops = loop_variables body }) body (started arguments t)

abbrev pub run_body : List Declaration → Block → List Arg → ℤ → Tables → RunResult
run_body schema body arguments first t = result_of schema (flow_of_body schema body arguments first t)

-- the run of a request with this first key
abbrev pub run : List Declaration → List Transaction → Request → ℤ → Tables → RunResult
run schema txns request first t = run_body schema (body_of (slice_get txns request.txn)) request.args first t

-- the tables that a run leaves; one that isn't done leaves those that it began on
abbrev pub left_of : Tables → Flow → Tables
left_of t (Goes st) = st.tables
left_of t (Ends o) = t

abbrev pub tables_left : List Declaration → List Transaction → Request → ℤ → Tables → Tables
tables_left schema txns request first t = left_of t (flow_of_body schema (body_of (slice_get txns request.txn)) request.args first t)
