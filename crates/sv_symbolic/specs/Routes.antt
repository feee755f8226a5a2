-- What statements and units do along choices: the facts and the effects of a path, in forms of its symbols.
use Rattle.std.specs.Prelude.{ℕ, suc, nat_lt, if◌then◌else◌, Bool, true, false, List, [], ◌∷◌, ◌++◌, length, Option, Some, None, slice_get}
use Rattle.sv_app.specs.declared.acts.Act.TheVariants as acts
use Rattle.sv_app.specs.declared.apps.Ident.{Ident}
use Rattle.sv_app.specs.declared.instances.Source.TheVariants as sources
use Rattle.sv_app.specs.declared.schemas.Column.{Column}
use Rattle.sv_app.specs.declared.schemas.Merge.{Merge}
use Rattle.sv_app.specs.declared.schemas.Merge.TheVariants as merges
use Rattle.sv_app.specs.declared.schemas.Ty.TheVariants as types
use Rattle.sv_app.specs.Kinds.{is_grow_only}
use Rattle.sv_app.specs.Paths.{Names, names_of, columns_at, merge_in, formed}
use Rattle.sv_app.specs.Paths as paths
use Rattle.sv_app.specs.Schema.{Declaration}
use Rattle.sv_app.specs.Slots.{item}
use Rattle.sv_app.specs.Symbols.{is_key_column, block_assigns, known_after}
use Rattle.sv_app.specs.Trees.{Term, Command, Declare, Assign, Fetch, Choose, ForRows, ForEach, Insert, Fresh, Update, Remove, Abort, Reply, Block, Finish, Then, Transaction}
use Rattle.sv_app.specs.Writes.{in_order}
use Rattle.sv_effect.specs.RunChanges.{outside_key}
use Rattle.sv_bounds.specs.declared.systems.Diff.{Diff}
use Rattle.sv_linear.specs.Effects.{SymValue, SymWrite, Delta, Set, SymEffect, linear}
use Rattle.sv_linear.specs.Forms.{sub}
use Rattle.sv_symbolic.specs.Sketches.{Drawing, Sketch, Drawn, Draws, then_draws, Tried, Short, Tells, zero_form, with_source, draw_form, draw_old, draw_symbol, draw_term, draw_terms, draw_test}

-- a counter goes from a value to another
abbrev pub draw_delta : SymValue → SymValue → Sketch → Drawn SymWrite
draw_delta v now k = then_draws (draw_form (sub (linear v) (linear now)) k) (λ w z. Draws (Delta (linear w)) z)

-- an update sets a counter by what it adds to the value now, another column by the value
abbrev pub draw_set : Merge → ℕ → SymValue → Sketch → Drawn SymWrite
draw_set merges.NumDelta c v k = then_draws (draw_old c types.Int k) (draw_delta v)
draw_set merges.Plain c v k = Draws (Set v) k
draw_set merges.Lww c v k = Draws (Set v) k
draw_set merges.Fresh c v k = Draws (Set v) k

-- the sets in order
abbrev pub draw_sets : List Declaration → Names → ℕ → List (Ident × Term) → Sketch → Drawn (List (ℕ × SymWrite))
draw_sets schema names table [] k = Draws [] k
draw_sets schema names table (set ∷ sets) k = then_draws (draw_term schema names table set.1 k) (λ v u. then_draws (draw_set (merge_in (slice_get (columns_at (slice_get schema table)) set.0.num)) set.0.num v u)
    (λ w z. then_draws (draw_sets schema names table sets z) (λ ws q. Draws ((set.0.num, w) ∷ ws) q)))

-- what a value writes into a row that wasn't there
abbrev pub first_write : Merge → SymValue → SymWrite
first_write merges.NumDelta v = Delta (linear v)
first_write merges.Plain v = Set v
first_write merges.Lww v = Set v
first_write merges.Fresh v = Set v

-- an insert writes a counter by what it adds to the kept value, which is a symbol; in a grow-only table nothing is kept
abbrev pub draw_insert : Bool → Merge → SymValue → Sketch → Drawn SymWrite
draw_insert true merge v k = Draws (first_write merge v) k
draw_insert false merges.NumDelta v k = then_draws (draw_symbol types.Int k) (draw_delta v)
draw_insert false merges.Plain v k = Draws (Set v) k
draw_insert false merges.Lww v k = Draws (Set v) k
draw_insert false merges.Fresh v k = Draws (Set v) k

-- the writes of an insert, to each column outside the key
abbrev pub draw_inserts : Declaration → List SymValue → ℕ → List Column → Sketch → Drawn (List (ℕ × SymWrite))
draw_inserts table vs c [] k = Draws [] k
draw_inserts table vs c (column ∷ columns) k = if is_key_column table.key c then draw_inserts table vs (suc c) columns k
    else then_draws (draw_insert (is_grow_only table.kind) column.merge (item zero_form vs c) k)
    (λ w u. then_draws (draw_inserts table vs (suc c) columns u) (λ ws z. Draws ((c, w) ∷ ws) z))

-- the writes of a row whose key is drawn: a value for each column but the key
abbrev pub first_writes : List (ℕ × Column) → List SymValue → List (ℕ × SymWrite)
first_writes (c ∷ cs) (v ∷ vs) = (c.0, first_write c.1.merge v) ∷ first_writes cs vs
first_writes _ _ = []

-- a path aborts, or has too few choices, or leads on
pub data Route : Type 0 where
  Aborts : Sketch → Route
  TooFew : Route
  Leads : Sketch → Route

abbrev pub then_route : Route → (Sketch → Route) → Route
then_route (Aborts k) go = Aborts k
then_route TooFew go = TooFew
then_route (Leads k) go = go k

abbrev pub on_drawn : {A : Type 0} → Drawn A → (A → Sketch → Route) → Route
on_drawn (Draws v k) go = go v k

abbrev pub on_tried : Tried → (Sketch → Route) → (Sketch → Route) → Route
on_tried Short f g = TooFew
on_tried (Tells true k) f g = f k
on_tried (Tells false k) f g = g k

-- a variable has the form of what it was given
abbrev pub set_form : ℕ → SymValue → Sketch → Route
set_form x v k = Leads (record { way = formed x k.way; drawing = with_source (sources.Variable x) v k.drawing })

-- a table that isn't declared is none of an accepted application
abbrev pub on_declared : Option Declaration → Sketch → (Declaration → Sketch → Route) → Route
on_declared None k go = Leads k
on_declared (Some table) k go = go table k

abbrev pub with_effect : SymEffect → Sketch → Sketch
with_effect e k = record { way = k.way; drawing = record k.drawing { effects = k.drawing.effects ++ e ∷ [] } }

-- no column of a row that is updated is known, before an update and after it
abbrev pub forgetting : Sketch → Sketch
forgetting k = record { way = paths.forgetting k.way; drawing = record k.drawing { olds = [] } }

-- a loop only gives the variables that its body assigns new sources
abbrev pub after_loop : Block → Sketch → Route
after_loop body k = Leads (record { way = record k.way { known = known_after (block_assigns body) k.way.known }; drawing = k.drawing })

abbrev mutual
  pub draw_command : List Declaration → Names → Command → Sketch → Route
  draw_command schema names (Declare x e) k = on_drawn (draw_term schema names 0 e k) (set_form x.num)
  draw_command schema names (Assign x e) k = on_drawn (draw_term schema names 0 e k) (set_form x.num)
  draw_command schema names (Fetch r t key) k = on_drawn (draw_terms schema names key k) (λ vs z. Leads z)
  draw_command schema names (Choose c ys ns) k = on_tried (draw_test schema names c k) (draw_block schema names ys) (draw_block schema names ns)
  draw_command schema names (ForRows r t c body) k = after_loop body k
  draw_command schema names (ForEach x l body) k = after_loop body k
  draw_command schema names (Insert t values) k = on_drawn (draw_terms schema names values k) (λ vs u. on_declared (slice_get schema t.num) u (λ d y.
      on_drawn (draw_inserts d vs 0 d.columns y) (λ ws z. Leads (with_effect (record { table = t.num; act = acts.Insert; writes = ws }) z))))
  draw_command schema names (Fresh x t values) k = on_drawn (draw_terms schema names values k) (λ vs u. on_drawn (draw_symbol types.Int u) (λ key z. then_route
      (on_declared (slice_get schema t.num) z (λ d y. Leads (with_effect (record { table = t.num; act = acts.Fresh; writes = first_writes (outside_key d 0 d.columns) vs }) y))) (set_form x.num key)))
  draw_command schema names (Update t key sets) k = on_drawn (draw_terms schema names key k) (λ vs u. on_drawn (draw_sets schema names t.num sets (forgetting u)) (λ ws z.
      on_declared (slice_get schema t.num) (forgetting z) (λ d y. Leads (with_effect (record { table = t.num; act = acts.Update; writes = in_order d 0 d.columns ws }) y))))
  draw_command schema names (Remove t key) k = on_drawn (draw_terms schema names key k) (λ vs z. on_declared (slice_get schema t.num) z (λ d y. Leads (with_effect (record { table = t.num; act = acts.Remove; writes = [] }) y)))
  draw_command schema names (Abort n) k = Aborts k
  draw_command schema names (Reply e) k = on_drawn (draw_term schema names 0 e k) (λ v z. Leads z)

  pub draw_block : List Declaration → Names → Block → Sketch → Route
  draw_block schema names Finish k = Leads k
  draw_block schema names (Then c b) k = then_route (draw_command schema names c k) (draw_block schema names b)

abbrev pub blank : Drawing
blank = record { sources = []; olds = []; facts = []; effects = []; narrow = true }

-- where a path begins
abbrev pub first_sketch : List Bool → Sketch
first_sketch choices = record { way = record { left = choices; known = []; known_old = []; symbols = [] }; drawing = blank }

-- a unit along these choices, from its begin
abbrev pub draw_unit : List Declaration → Transaction → Block → List Bool → Route
draw_unit schema txn body choices = draw_block schema (names_of schema txn) body (first_sketch choices)

-- what is answered of a path that doesn't abort: a 65th symbol is needed, or else a form is wide, or the facts, the effects and the number of symbols
pub data Executed : Type 0 where
  Many : Executed
  Wide : Executed
  Shape : List Diff → List SymEffect → ℕ → Executed

abbrev pub executed : Sketch → Executed
executed k = if nat_lt 64 (length k.way.symbols) then Many else if k.drawing.narrow then Shape k.drawing.facts k.drawing.effects (length k.way.symbols) else Wide
