-- How the turns of loops are listed, and how one begins.
use Rattle.std.proofs.Common.{◌≡◌, ◌∷◌, [], map, ℕ, true, false, List, Option, Some, None, cond, refl, sym, ap, subst, ◌∙◌, slice_get}
use Rattle.std.specs.FinMap.{get, empty}
use Rattle.std.specs.Option.{option_map}
use Rattle.sv_value.specs.declared.values.Key.{Key}
use Rattle.sv_value.specs.declared.values.Val.{Val}
use Rattle.sv_app.specs.declared.apps.Ident.{Ident}
use Rattle.sv_app.specs.declared.names.Meaning.TheVariants.{Row as RowOf, Constant}
use Rattle.sv_app.specs.declared.places.Place.{Place}
use Rattle.sv_app.specs.Schema.{Declaration}
use Rattle.sv_app.specs.Scopes.{knowing}
use Rattle.sv_app.specs.Tables.{Tables}
use Rattle.sv_app.specs.Trees.{Test, Command, ForRows, ForEach, Block}
use Rattle.sv_app.specs.Units.{loop_variables, unit_of}
use Rattle.sv_effect.specs.declared.left.LeftRow.{LeftRow}
use Rattle.sv_effect.specs.declared.outcomes.Outcome.{Outcome}
use Rattle.sv_effect.specs.declared.outcomes.Outcome.TheVariants as outcomes
use Rattle.sv_effect.specs.Faces.{Face}
use Rattle.sv_effect.specs.Follows.{Follows}
use Rattle.sv_effect.specs.Overlays.{over, left_row, left_rows, FoundFits}
use Rattle.sv_effect.specs.Reads.{ReadValue}
use Rattle.sv_effect.specs.Run.{Stand, Flow, Goes, Ends, Setting, run_command, run_block, then_do, turns, closed, left_loop, with_scope, with_row, with_value, begun, instance, if_present, row_turn, meeting, only, present_keys, on_keys, items_of}
use Rattle.sv_effect.specs.RunValues.{Scope}
use Rattle.sv_effect.proofs.FollowLaws as follow
use Rattle.sv_interp.specs.declared.scopes.Progress.{Progress}
use Rattle.sv_interp.specs.declared.settings.Turn.{Turn}
use Rattle.sv_interp.specs.declared.settings.Turn.TheVariants as turn
use Rattle.sv_interp.specs.declared.states.State.{State}
use Rattle.sv_interp.specs.Keeping.{AreFit}
use Rattle.sv_interp.specs.Machine.{progress_of, scope_of, stand, calm, Runs, closing, looping}
use Rattle.sv_interp.specs.Turning.{turn_of, turn_in, item_turns, row_turns, AreRowTurns, entered, Enters, ItemTurnIn, RowTurnIn, TurnIn, Begins}
use Rattle.sv_interp.proofs.LookLaws.{found_fits}
use Rattle.sv_trace.specs.Standing.{RowAt, Holds, Passes, Turned}
use Rattle.sv_trace.proofs.ChangeLaws.{own_rows_fit}
use Rattle.sv_trace.proofs.LoopLaws.{rows_in, items_in, row_begins, item_begins, row_turn_closes, item_turn_closes, turned_none}

-- the turns over the rows that meet a condition
pub none_selected : (o n : Face) (a b : Option (List ReadValue)) (own : List (Place × LeftRow)) (u r table : ℕ) (test : Option Test) (scope : Scope) (found : Option (List Key))
    → Follows o n a b (λ t. only (meeting r table test (over own t) (present_keys (over own t) table) scope) ≡ found) → found ≡ None
    → Follows o n a b (λ t. option_map (row_turns u r table) (only (meeting r table test (over own t) (present_keys (over own t) table) scope)) ≡ None)
none_selected o n a b own u r table test scope found f z = follow.so o n a b _ _ f (λ t h. ap (option_map (row_turns u r table)) (h ∙ z))

pub some_selected : (o n : Face) (a b : Option (List ReadValue)) (own : List (Place × LeftRow)) (u r table : ℕ) (test : Option Test) (scope : Scope) (found : Option (List Key)) (ks ls : List Key) (ts : List Turn)
    → Follows o n a b (λ t. only (meeting r table test (over own t) (present_keys (over own t) table) scope) ≡ found) → found ≡ Some ks → ls ≡ ks → ts ≡ row_turns u r table ls
    → Follows o n a b (λ t. option_map (row_turns u r table) (only (meeting r table test (over own t) (present_keys (over own t) table) scope)) ≡ Some ts)
some_selected o n a b own u r table test scope found ks ls ts f z i e = follow.so o n a b _ _ f (λ t h. ap (option_map (row_turns u r table)) (h ∙ z) ∙ ap (λ l. Some (row_turns u r table l)) (sym i) ∙ ap (λ l. Some l) (sym e))

pub are_row_turns : (u r table : ℕ) (ks : List Key) (ts : List Turn) → ts ≡ row_turns u r table ks → AreRowTurns u r table ts
are_row_turns u r table ks ts e = record { keys = ks; are = e }

pub ruleset selecting = (none_selected, some_selected, are_row_turns)

-- a turn that is skipped
pub skipped : (d : Turn) (u r table : ℕ) (k : Key) (o n : Face) (a b : Option (List ReadValue)) (s : State) (own : List (Place × LeftRow)) (found : Option LeftRow)
    → d ≡ turn.Row u r table k → Follows o n a b (λ t. get (over own t) (record { table = table; key = k }) ≡ left_rows found) → own ≡ s.own.items → found ≡ None → Enters d o n a b s None s
skipped d u r table k o n a b s own found e f w z = record {
  ran = follow.so o n a b _ _ f (λ t h body. ap (λ q. turn_of body q (stand t s)) e
      ∙ ap (λ q. if_present q (λ row. instance u (λ y. body (with_scope y (with_row r row.values y.scope)))) (stand t s)) (ap (λ l. get (over l t) (record { table = table; key = k })) (sym w) ∙ h ∙ ap left_rows z));
}

pub gone : (d : Turn) (u r table : ℕ) (k : Key) (o n : Face) (a b : Option (List ReadValue)) (s : State) (own : List (Place × LeftRow)) (found : Option LeftRow) (row : LeftRow)
    → d ≡ turn.Row u r table k → Follows o n a b (λ t. get (over own t) (record { table = table; key = k }) ≡ left_rows found) → own ≡ s.own.items → found ≡ Some row → row.present ≡ false → Enters d o n a b s None s
gone d u r table k o n a b s own found row e f w z p = record {
  ran = follow.so o n a b _ _ f (λ t h body. ap (λ q. turn_of body q (stand t s)) e
      ∙ ap (λ q. if_present q (λ row. instance u (λ y. body (with_scope y (with_row r row.values y.scope)))) (stand t s)) (ap (λ l. get (over l t) (record { table = table; key = k })) (sym w) ∙ h ∙ ap left_rows z)
      ∙ ap (λ c. cond c (instance u (λ y. body (with_scope y (with_row r row.values y.scope))) (stand t s)) (Goes (stand t s))) p);
}

-- a turn over an item, and one over a row that is present
pub item_entered : (d : Turn) (u x : ℕ) (v : Val) (o n : Face) (a b : Option (List ReadValue)) (s y w : State) (outer : Progress)
    → d ≡ turn.Item u x v → n ≡ o → b ≡ a → progress_of outer ≡ progress_of s.scope.progress → ((t : Tables) → stand t y ≡ begun u (stand t s))
    → ((t : Tables) → stand t w ≡ with_scope (stand t y) (with_value x v (stand t y).scope)) → Enters d o n a b s (Some outer) w
item_entered d u x v o n a b s y w outer e same stands out begins binds = record {
  ran = follow.quiet o n a b _ same stands (λ t body. ap (λ q. turn_of body q (stand t s)) e
      ∙ ap (λ q. then_do (body (with_scope q (with_value x v q.scope))) (λ z. Goes (closed (stand t s).scope.progress z))) (sym (begins t))
      ∙ ap (λ q. then_do (body q) (λ z. Goes (closed (stand t s).scope.progress z))) (sym (binds t))
      ∙ ap (λ q. then_do (body (stand t w)) (λ z. Goes (closed q z))) (sym out));
}

pub row_entered : (d : Turn) (u r table : ℕ) (k : Key) (o n : Face) (a b : Option (List ReadValue)) (s y w : State) (own : List (Place × LeftRow)) (found : Option LeftRow) (row : LeftRow) (outer : Progress)
    → d ≡ turn.Row u r table k → Follows o n a b (λ t. get (over own t) (record { table = table; key = k }) ≡ left_rows found) → own ≡ s.own.items → found ≡ Some row → row.present ≡ true
    → progress_of outer ≡ progress_of s.scope.progress → ((t : Tables) → stand t y ≡ begun u (stand t s))
    → ((t : Tables) → stand t w ≡ with_scope (stand t y) (with_row r row.values (stand t y).scope)) → Enters d o n a b s (Some outer) w
row_entered d u r table k o n a b s y w own found row outer e f i z p out begins binds = record {
  ran = follow.so o n a b _ _ f (λ t h body. ap (λ q. turn_of body q (stand t s)) e
      ∙ ap (λ q. if_present q (λ row. instance u (λ y. body (with_scope y (with_row r row.values y.scope)))) (stand t s)) (ap (λ l. get (over l t) (record { table = table; key = k })) (sym i) ∙ h ∙ ap left_rows z)
      ∙ ap (λ c. cond c (instance u (λ y. body (with_scope y (with_row r row.values y.scope))) (stand t s)) (Goes (stand t s))) p
      ∙ ap (λ q. then_do (body (with_scope q (with_row r row.values q.scope))) (λ z. Goes (closed (stand t s).scope.progress z))) (sym (begins t))
      ∙ ap (λ q. then_do (body q) (λ z. Goes (closed (stand t s).scope.progress z))) (sym (binds t))
      ∙ ap (λ q. then_do (body (stand t w)) (λ z. Goes (closed q z))) (sym out));
}

-- what holds before a turn holds where it began
pub skip_begins : (is_of : List Declaration → Type 0) (d : Turn) (s : State) → Begins is_of d s None s
skip_begins is_of d s = record { begins = λ f at body own inside holds. turned_none f at (calm s) holds }

pub item_begun : (is_of : List Declaration → Type 0) (d : Turn) (u x : ℕ) (v : Val) (s y w : State) (outer : Progress)
    → d ≡ turn.Item u x v → progress_of outer ≡ progress_of s.scope.progress → ((t : Tables) → stand t y ≡ begun u (stand t s))
    → ((t : Tables) → stand t w ≡ with_scope (stand t y) (with_value x v (stand t y).scope)) → Begins is_of d s (Some outer) w
item_begun is_of d u x v s y w outer e out begins binds = record {
  begins = λ f at body own within holds.
      let inside : ItemTurnIn f at u x v body = subst (TurnIn f at body) e within in
      let starts : calm w ≡ with_scope (begun u (calm s)) (with_value inside.name.num v (begun u (calm s)).scope) =
      binds empty ∙ ap (λ q. with_scope q (with_value x v q.scope)) (begins empty) ∙ ap (λ n. with_scope (begun u (calm s)) (with_value n v (begun u (calm s)).scope)) inside.same_variable in
      let unit_is : u ≡ unit_of (loop_variables f.txn.body) inside.name.num = inside.same_unit ∙ ap (unit_of (loop_variables f.txn.body)) inside.same_variable in
      record {
        inner = knowing at inside.name Constant;
        inside = items_in f at inside.name inside.list body inside.command;
        holds = subst (Holds f (knowing at inside.name Constant)) (sym starts) (item_begins f at inside.name inside.list body u v (calm s) inside.command holds inside.integer);
        closes = λ mid passes. subst (λ q. Turned f at (calm s) (closed q mid)) (sym out)
            (item_turn_closes f at inside.name inside.list body u v (calm s) mid inside.command unit_is (subst (λ st. Passes f (knowing at inside.name Constant) body st mid) starts passes));
      };
}

pub row_begun : (is_of : List Declaration → Type 0) (d : Turn) (u r table : ℕ) (k : Key) (s y w : State) (own : List (Place × LeftRow)) (found : Option LeftRow) (row : LeftRow) (outer : Progress)
    → d ≡ turn.Row u r table k → FoundFits is_of own (record { table = table; key = k }) (left_rows found) → own ≡ s.own.items → found ≡ Some row
    → progress_of outer ≡ progress_of s.scope.progress → ((t : Tables) → stand t y ≡ begun u (stand t s))
    → ((t : Tables) → stand t w ≡ with_scope (stand t y) (with_row r row.values (stand t y).scope)) → Begins is_of d s (Some outer) w
row_begun is_of d u r table k s y w own found row outer e fits own_is z out begins binds = record {
  begins = λ f at body is within holds.
      let inside : RowTurnIn f at u r table body = subst (TurnIn f at body) e within in
      let at_place : RowAt f.schema (record { table = inside.of_table.num; key = k }) (Some (left_row row)) =
      subst (λ n. RowAt f.schema (record { table = n; key = k }) (Some (left_row row))) inside.same_table (subst (λ q. RowAt f.schema (record { table = table; key = k }) (left_rows q)) z
      (found_fits is_of f.schema own (record { table = table; key = k }) (left_rows found) fits is (subst (λ l. AreFit f.schema (over l empty)) (sym own_is) (λ p. own_rows_fit f at (calm s) p (get (calm s).tables p) holds refl)))) in
      let starts : calm w ≡ with_scope (begun u (calm s)) (with_row inside.variable.num row.values (begun u (calm s)).scope) =
      binds empty ∙ ap (λ q. with_scope q (with_row r row.values q.scope)) (begins empty) ∙ ap (λ n. with_scope (begun u (calm s)) (with_row n row.values (begun u (calm s)).scope)) inside.same_row in
      let unit_is : u ≡ unit_of (loop_variables f.txn.body) inside.variable.num = inside.same_unit ∙ ap (unit_of (loop_variables f.txn.body)) inside.same_row in
      record {
        inner = knowing at inside.variable (RowOf inside.of_table);
        inside = rows_in f at inside.variable inside.of_table inside.condition body inside.command;
        holds = subst (Holds f (knowing at inside.variable (RowOf inside.of_table))) (sym starts) (row_begins f at inside.variable inside.of_table inside.condition body u k (left_row row) (calm s) inside.command holds at_place);
        closes = λ mid passes. subst (λ q. Turned f at (calm s) (closed q mid)) (sym out)
            (row_turn_closes f at inside.variable inside.of_table inside.condition body u (left_row row) (calm s) mid inside.command unit_is (subst (λ st. Passes f (knowing at inside.variable (RowOf inside.of_table)) body st mid) starts passes));
      };
}

pub ruleset entering = (skipped, gone, item_entered, row_entered, skip_begins, item_begun, row_begun)

-- a turn that began goes on with its body
pub turn_runs : (d : Turn) (body : Stand → Flow) (o m n : Face) (a b c : Option (List ReadValue)) (s u : State) (found : Option Progress) (outer : Progress) (end : Option Outcome) (s' : State)
    → Enters d o m a b s found u → found ≡ Some outer → Runs (closing (progress_of outer) body) m n b c u end s' → Runs (turn_of body d) o n a c s end s'
turn_runs d body o m n a b c s u found outer end s' e z r = record { ran = follow.next_to o m n a b c _ _ _ e.ran r.ran (λ t x y. x body ∙ ap (λ q. entered q body (stand t u)) z ∙ y) }

pub turn_skips : (d : Turn) (body : Stand → Flow) (o n : Face) (a b : Option (List ReadValue)) (s u : State) (found : Option Progress)
    → Enters d o n a b s found u → found ≡ None → Runs (turn_of body d) o n a b s None u
turn_skips d body o n a b s u found e z = record { ran = follow.so o n a b _ _ e.ran (λ t x. x body ∙ ap (λ q. entered q body (stand t u)) z) }

pub ruleset entries = (turn_runs, turn_skips)

-- flows that go on alike are the same
then_same : (q : Flow) (f h : Stand → Flow) → ((z : Stand) → f z ≡ h z) → then_do q f ≡ then_do q h
then_same (Goes z) f h e = e z
then_same (Ends x) f h e = refl

turns_mapped : {A : Type 0} (make : A → Turn) (each : Turn → Stand → Flow) (xs : List A) (st : Stand) → turns xs (λ x. each (make x)) st ≡ turns (map make xs) each st
turns_mapped make each [] st = refl
turns_mapped make each (x ∷ xs) st = then_same (each (make x) st) (turns xs (λ y. each (make y))) (turns (map make xs) each) (λ z. turns_mapped make each xs z)

no_keys : (u r table : ℕ) (q : Option (List Key)) (go : List Key → Flow) → option_map (row_turns u r table) q ≡ None → on_keys q go ≡ Ends outcomes.Range
no_keys u r table None go e = refl
no_keys u r table (Some ks) go e = absurd cc

keys_as_turns : (u r table : ℕ) (body : Stand → Flow) (b : Block) (q : Option (List Key)) (ts : List Turn) (st : Stand) → option_map (row_turns u r table) q ≡ Some ts
    → on_keys q (λ ks. then_do (turns ks (row_turn u r table body) st) (left_loop b)) ≡ looping ts (turn_of body) b st
keys_as_turns u r table body b None ts st e = absurd cc
keys_as_turns u r table body b (Some ks) ts st e =
    let same : row_turns u r table ks ≡ ts = cc in
    ap (λ q. then_do q (left_loop b)) (turns_mapped (λ k. turn.Row u r table k) (turn_of body) ks st ∙ ap (λ l. turns l (turn_of body) st) same)

-- a loop over the rows that meet a condition
pub rows_end : (g : Setting) (d : Command) (r table : Ident) (test : Option Test) (body : Block) (o n : Face) (a b : Option (List ReadValue)) (s : State) (own : List (Place × LeftRow)) (scope : Scope) (found : Option (List Turn))
    → d ≡ ForRows r table test body
    → Follows o n a b (λ t. option_map (row_turns (unit_of g.loops r.num) r.num table.num) (only (meeting r.num table.num test (over own t) (present_keys (over own t) table.num) scope)) ≡ found)
    → own ≡ s.own.items → scope ≡ scope_of s.scope → found ≡ None → Runs (run_command g d) o n a b s (Some outcomes.Range) s
rows_end g d r table test body o n a b s own scope found e f w i z = record {
  ran = follow.so o n a b _ _ f (λ t h. ap (λ q. run_command g q (stand t s)) e
      ∙ ap (λ l. on_keys (only (meeting r.num table.num test (over l t) (present_keys (over l t) table.num) (scope_of s.scope))) (λ ks. then_do (turns ks (row_turn (unit_of g.loops r.num) r.num table.num (run_block g body)) (stand t s)) (left_loop body))) (sym w)
      ∙ ap (λ q. on_keys (only (meeting r.num table.num test (over own t) (present_keys (over own t) table.num) q)) (λ ks. then_do (turns ks (row_turn (unit_of g.loops r.num) r.num table.num (run_block g body)) (stand t s)) (left_loop body))) (sym i)
      ∙ no_keys (unit_of g.loops r.num) r.num table.num (only (meeting r.num table.num test (over own t) (present_keys (over own t) table.num) scope)) (λ ks. then_do (turns ks (row_turn (unit_of g.loops r.num) r.num table.num (run_block g body)) (stand t s)) (left_loop body)) (h ∙ z));
}

pub rows_run : (g : Setting) (d : Command) (r table : Ident) (test : Option Test) (body : Block) (o m n : Face) (a b c : Option (List ReadValue)) (s : State) (own : List (Place × LeftRow)) (scope : Scope) (found : Option (List Turn)) (ts ls : List Turn) (end : Option Outcome) (s' : State)
    → d ≡ ForRows r table test body
    → Follows o m a b (λ t. option_map (row_turns (unit_of g.loops r.num) r.num table.num) (only (meeting r.num table.num test (over own t) (present_keys (over own t) table.num) scope)) ≡ found)
    → own ≡ s.own.items → scope ≡ scope_of s.scope → found ≡ Some ts → ls ≡ ts → Runs (looping ls (turn_in g body) body) m n b c s end s' → Runs (run_command g d) o n a c s end s'
rows_run g d r table test body o m n a b c s own scope found ts ls end s' e f w i z same l = record {
  ran = follow.next_to o m n a b c _ _ _ f l.ran (λ t h y. ap (λ q. run_command g q (stand t s)) e
      ∙ ap (λ l. on_keys (only (meeting r.num table.num test (over l t) (present_keys (over l t) table.num) (scope_of s.scope))) (λ ks. then_do (turns ks (row_turn (unit_of g.loops r.num) r.num table.num (run_block g body)) (stand t s)) (left_loop body))) (sym w)
      ∙ ap (λ q. on_keys (only (meeting r.num table.num test (over own t) (present_keys (over own t) table.num) q)) (λ ks. then_do (turns ks (row_turn (unit_of g.loops r.num) r.num table.num (run_block g body)) (stand t s)) (left_loop body))) (sym i)
      ∙ keys_as_turns (unit_of g.loops r.num) r.num table.num (run_block g body) body (only (meeting r.num table.num test (over own t) (present_keys (over own t) table.num) scope)) ts (stand t s) (h ∙ z)
      ∙ ap (λ q. looping q (turn_in g body) body (stand t s)) (sym same) ∙ y);
}

-- a loop over the elements of a list
pub each_runs : (g : Setting) (d : Command) (x list : Ident) (body : Block) (o n : Face) (a b : Option (List ReadValue)) (s : State) (ts ls : List Turn) (end : Option Outcome) (s' : State)
    → d ≡ ForEach x list body → ts ≡ item_turns (unit_of g.loops x.num) x.num (items_of (slice_get g.arguments list.num)) → ls ≡ ts
    → Runs (looping ls (turn_in g body) body) o n a b s end s' → Runs (run_command g d) o n a b s end s'
each_runs g d x list body o n a b s ts ls end s' e h same l = record {
  ran = follow.so o n a b _ _ l.ran (λ t y. ap (λ q. run_command g q (stand t s)) e
      ∙ ap (λ q. then_do q (left_loop body)) (turns_mapped (λ v. turn.Item (unit_of g.loops x.num) x.num v) (turn_in g body) (items_of (slice_get g.arguments list.num)) (stand t s))
      ∙ ap (λ q. looping q (turn_in g body) body (stand t s)) (sym (same ∙ h)) ∙ y);
}
