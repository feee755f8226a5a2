-- How steps that keep what holds follow each other.
use Rattle.std.proofs.Common.{◌≡◌, ◌<◌, length, map, get_or, ℕ, zero, suc, Bool, true, false, List, ◌∷◌, [], Option, Some, None, slice_get, if◌then◌else◌, refl, sym, ap, subst, ◌∙◌, arith}
use Rattle.std.specs.Prelude.{ℤ}
use Rattle.std.specs.FinMap.{get, empty}
use Rattle.sv_value.specs.declared.values.Key.{Key}
use Rattle.sv_value.specs.declared.values.Val.{Val}
use Rattle.sv_value.specs.declared.values.Val.TheVariants.{Int}
use Rattle.sv_app.specs.declared.apps.Ident.{Ident}
use Rattle.sv_app.specs.declared.places.Place.{Place}
use Rattle.sv_app.specs.declared.requests.Arg.{Arg}
use Rattle.sv_app.specs.declared.requests.Arg.TheVariants as args
use Rattle.sv_app.specs.declared.schemas.Ty.TheVariants as types
use Rattle.sv_app.specs.Fitting.{HasType}
use Rattle.sv_app.specs.Schema.{Declaration}
use Rattle.sv_app.specs.Scopes.{Scope}
use Rattle.sv_app.specs.Tables.{Row, Tables}
use Rattle.sv_app.specs.Trees.{Term, Test, Command, Declare, Assign, Fetch, Choose, ForRows, ForEach, Insert, Fresh, Update, Remove, Reply, Block, Finish, Then}
use Rattle.sv_app.specs.TxnTyping.{behind}
use Rattle.sv_app.specs.Units.{loop_variables, unit_of}
use Rattle.sv_effect.specs.declared.outcomes.Outcome.{Outcome}
use Rattle.sv_effect.specs.declared.outcomes.Outcome.TheVariants as outcomes
use Rattle.sv_effect.specs.declared.left.LeftRow.{LeftRow}
use Rattle.sv_effect.specs.Overlays.{over, left_row, left_rows, FoundFits}
use Rattle.sv_effect.specs.Run.{Stand, Flow, Goes, Ends, Setting, run_command, with_scope, with_row, place_of_row, on_present, inserted, drawn, updated, removed, closed, left_loop, items_of}
use Rattle.sv_effect.specs.RunChanges.{key_in, drawn_key}
use Rattle.sv_effect.specs.RunValues.{Progress, Gives, values_of, truth_of}
use Rattle.sv_interp.specs.declared.states.State.{State}
use Rattle.sv_interp.specs.declared.scopes.Progress.{Progress as Began}
use Rattle.sv_interp.specs.declared.settings.Turn.{Turn}
use Rattle.sv_interp.specs.Machine.{progress_of, scope_of, evaluated, stand, calm, flow_of}
use Rattle.sv_interp.specs.Keeping.{Closes, Part, Statements, Statement, Inside, Turns, Loop, Keeps, AreFit, LooksUp}
use Rattle.sv_interp.specs.Turning.{item_turns, row_turns, AreRowTurns, ItemTurnIn, RowTurnIn, TurnIn, TurnsIn, BegunTurn, InTurn, Begins}
use Rattle.sv_trace.specs.Standing.{Frame, RowAt, BlockIn, CommandIn, Holds, Passes, Makes, Turned}
use Rattle.sv_interp.proofs.LookLaws.{found_fits}
use Rattle.sv_trace.proofs.BlockLaws.{first_in, rest_in, passes_finish, passes_then}
use Rattle.sv_trace.proofs.ChangeLaws.{own_rows_fit, makes_remove}
use Rattle.sv_trace.proofs.FreshLaws.{makes_fresh}
use Rattle.sv_trace.proofs.InsertLaws.{makes_insert}
use Rattle.sv_trace.proofs.LoopLaws.{yes_in, no_in, test_holds, makes_yes, makes_no, turned_none, turned_more, makes_rows, makes_items}
use Rattle.sv_trace.proofs.StatementLaws.{makes_declare, makes_assign, makes_fetch, makes_reply}
use Rattle.sv_trace.proofs.UpdateLaws.{makes_update}

-- a run that was ended keeps nothing
pub keeps_ended : (is_of : List Declaration → Type 0) (g : Setting) (part : Part) (s : State) (e : Outcome) (s' : State) → Keeps is_of g part s (Some e) s'
keeps_ended is_of g part s e s' = record { keeps = λ f at frame setting own inside holds none. absurd (let bad : Some e ≡ None = none in cc) }

-- a step that goes on is what the meaning gives
goes : (one : Option Outcome) (flow : Flow) (st : Stand) → flow ≡ (flow_of one st) → one ≡ None → flow ≡ Goes st
goes one flow st e z = e ∙ ap (λ o. flow_of o st) z

pub keeps_finish : (is_of : List Declaration → Type 0) (g : Setting) (d : Block) (s : State) → d ≡ Finish → Keeps is_of g (Statements d) s None s
keeps_finish is_of g d s e = record {
  keeps = λ f at frame setting own inside holds none. subst (λ b. Passes f at b (calm s) (calm s)) (sym e) (passes_finish f at (calm s) holds);
}

pub keeps_then : (is_of later : List Declaration → Type 0) (g : Setting) (d : Block) (c : Command) (rest : Block) (s u w : State) (one end : Option Outcome)
    → d ≡ Then c rest → Keeps is_of g (Statement c) s one u → one ≡ None → ((schema : List Declaration) → is_of schema → later schema)
    → Keeps later g (Statements rest) u end w → Keeps is_of g (Statements d) s end w
keeps_then is_of later g d c rest s u w one end e first z same more = record {
  keeps = λ f at frame setting own inside holds none.
      let i : BlockIn f at (Then c rest) = subst (λ b. BlockIn f at b) e inside in
      let made : Makes f at c (calm s) (calm u) = first.keeps f at frame setting own (first_in f at c rest i) holds z in
      let passed : Passes f (behind at c) rest (calm u) (calm w) = more.keeps f (behind at c) frame setting (same f.schema own) (rest_in f at c rest i) made.holds none in
      subst (λ b. Passes f at b (calm s) (calm w)) (sym e) (passes_then f at c rest (calm s) (calm u) (calm w) made passed);
}

pub ruleset blocks = (keeps_ended, keeps_finish, keeps_then)

-- a statement by itself
pub keeps_same : (is_of : List Declaration → Type 0) (g : Setting) (d c : Command) (s : State) (end : Option Outcome) (s' : State) → d ≡ c → Keeps is_of g (Statement c) s end s' → Keeps is_of g (Statement d) s end s'
keeps_same is_of g d c s end s' e k = subst (λ x. Keeps is_of g (Statement x) s end s') (sym e) k

pub keeps_declare : (is_of : List Declaration → Type 0) (g : Setting) (d : Command) (x : Ident) (e : Term) (s : State) (end : Option Outcome) (s' : State)
    → d ≡ Declare x e → ((g : Setting) (t : Tables) → run_command g (Declare x e) (stand t s) ≡ flow_of end (stand t s')) → Keeps is_of g (Statement d) s end s'
keeps_declare is_of g d x e s end s' same ran = keeps_same is_of g d (Declare x e) s end s' same (record {
  keeps = λ f at frame setting own inside holds none. makes_declare f at x e g (calm s) (calm s') inside holds (goes end (run_command g (Declare x e) (calm s)) (calm s') (ran g empty) none);
})

pub keeps_assign : (is_of : List Declaration → Type 0) (g : Setting) (d : Command) (x : Ident) (e : Term) (s : State) (end : Option Outcome) (s' : State)
    → d ≡ Assign x e → ((g : Setting) (t : Tables) → run_command g (Declare x e) (stand t s) ≡ flow_of end (stand t s')) → Keeps is_of g (Statement d) s end s'
keeps_assign is_of g d x e s end s' same ran = keeps_same is_of g d (Assign x e) s end s' same (record {
  keeps = λ f at frame setting own inside holds none. makes_assign f at x e g (calm s) (calm s') inside holds (goes end (run_command g (Assign x e) (calm s)) (calm s') (ran g empty) none);
})

pub keeps_reply : (is_of : List Declaration → Type 0) (g : Setting) (d : Command) (e : Term) (s : State) (end : Option Outcome) (s' : State)
    → d ≡ Reply e → ((g : Setting) (t : Tables) → run_command g (Reply e) (stand t s) ≡ flow_of end (stand t s')) → Keeps is_of g (Statement d) s end s'
keeps_reply is_of g d e s end s' same ran = keeps_same is_of g d (Reply e) s end s' same (record {
  keeps = λ f at frame setting own inside holds none. makes_reply f at e g (calm s) (calm s') inside holds (goes end (run_command g (Reply e) (calm s)) (calm s') (ran g empty) none);
})

pub ruleset commands = (keeps_ended, keeps_same, keeps_declare, keeps_assign, keeps_reply)

-- a choice
pub keeps_yes : (is_of : List Declaration → Type 0) (g : Setting) (d : Command) (test : Test) (ys ns : Block) (s u w : State) (found : Option Bool) (holds : Bool) (end : Option Outcome)
    → d ≡ Choose test ys ns → truth_of test (scope_of s.scope) ≡ evaluated found u.scope → found ≡ Some holds → holds ≡ true → calm u ≡ with_scope (calm s) (scope_of u.scope)
    → Keeps is_of g (Statements ys) u end w → Keeps is_of g (Statement d) s end w
keeps_yes is_of g d test ys ns s u w found holds end i e z h after more = keeps_same is_of g d (Choose test ys ns) s end w i (record {
  keeps = λ f at frame setting own inside stands none.
      let gives : truth_of test (scope_of s.scope) ≡ Gives true (scope_of u.scope) = e ∙ ap (λ o. evaluated o u.scope) (z ∙ ap (λ b. Some b) h) in
      let here : Holds f at (calm u) = subst (Holds f at) (sym after) (test_holds f at test ys ns (calm s) true (scope_of u.scope) inside stands gives) in
      let passed : Passes f at ys (calm u) (calm w) = more.keeps f at frame setting own (yes_in f at test ys ns inside) here none in
      makes_yes f at test ys ns (calm s) (scope_of u.scope) (calm w) inside stands gives (subst (λ st. Passes f at ys st (calm w)) after passed);
})

pub keeps_no : (is_of : List Declaration → Type 0) (g : Setting) (d : Command) (test : Test) (ys ns : Block) (s u w : State) (found : Option Bool) (holds : Bool) (end : Option Outcome)
    → d ≡ Choose test ys ns → truth_of test (scope_of s.scope) ≡ evaluated found u.scope → found ≡ Some holds → holds ≡ false → calm u ≡ with_scope (calm s) (scope_of u.scope)
    → Keeps is_of g (Statements ns) u end w → Keeps is_of g (Statement d) s end w
keeps_no is_of g d test ys ns s u w found holds end i e z h after more = keeps_same is_of g d (Choose test ys ns) s end w i (record {
  keeps = λ f at frame setting own inside stands none.
      let gives : truth_of test (scope_of s.scope) ≡ Gives false (scope_of u.scope) = e ∙ ap (λ o. evaluated o u.scope) (z ∙ ap (λ b. Some b) h) in
      let here : Holds f at (calm u) = subst (Holds f at) (sym after) (test_holds f at test ys ns (calm s) false (scope_of u.scope) inside stands gives) in
      let passed : Passes f at ns (calm u) (calm w) = more.keeps f at frame setting own (no_in f at test ys ns inside) here none in
      makes_no f at test ys ns (calm s) (scope_of u.scope) (calm w) inside stands gives (subst (λ st. Passes f at ns st (calm w)) after passed);
})

-- a turn of a loop
pub keeps_closing : (is_of : List Declaration → Type 0) (g : Setting) (body : Block) (outer : Progress) (s u w : State) (one : Option Outcome)
    → Keeps is_of g (Statements body) s one u → one ≡ None → ((t : Tables) → stand t w ≡ closed outer (stand t u)) → Keeps is_of g (Inside body outer) s None w
keeps_closing is_of g body outer s u w one k z e = record {
  keeps = λ f at frame setting own inside holds none. record { mid = calm u; passes = k.keeps f at frame setting own inside holds z; closes = e empty };
}

pub ruleset closings = (keeps_ended, keeps_closing)

pub keeps_turn : (is_of later : List Declaration → Type 0) (g : Setting) (d : Turn) (body : Block) (s u w : State) (found : Option Began) (outer : Began) (end : Option Outcome)
    → Begins is_of d s found u → found ≡ Some outer → ((schema : List Declaration) → is_of schema → later schema) → Keeps later g (Inside body (progress_of outer)) u end w → Keeps is_of g (Turns (d ∷ []) body) s end w
keeps_turn is_of later g d body s u w found outer end begun z same more = record {
  keeps = λ f at frame setting own inside holds none.
      let first : InTurn f at body (calm s) (progress_of outer) (calm u) = subst (λ q. BegunTurn f at body (calm s) q (calm u)) z (begun.begins f at body own inside.0 holds) in
      let done : Closes f first.inner body (progress_of outer) (calm u) (calm w) = more.keeps f first.inner frame setting (same f.schema own) first.inside first.holds none in
      subst (Turned f at (calm s)) (sym done.closes) (first.closes done.mid done.passes);
}

pub keeps_skip : (is_of : List Declaration → Type 0) (g : Setting) (d : Turn) (body : Block) (s u : State) (found : Option Began)
    → Begins is_of d s found u → found ≡ None → Keeps is_of g (Turns (d ∷ []) body) s None u
keeps_skip is_of g d body s u found begun z = record {
  keeps = λ f at frame setting own inside holds none. subst (λ q. BegunTurn f at body (calm s) q (calm u)) z (begun.begins f at body own inside.0 holds);
}

pub ruleset entries = (keeps_ended, keeps_turn, keeps_skip)

-- no turn, and one turn more
pub turns_none : (is_of : List Declaration → Type 0) (g : Setting) (ts : List Turn) (body : Block) (s : State) → Keeps is_of g (Turns ts body) s None s
turns_none is_of g ts body s = record { keeps = λ f at frame setting own inside holds none. turned_none f at (calm s) holds }

turn_among : (f : Frame) (at : Scope) (body : Block) (ts : List Turn) (i : ℕ) (d : Turn) → TurnsIn f at body ts → i < length ts → TurnIn f at body (get_or ts i d)
turn_among f at body [] i d all h = absurd (omega (arith, h))
turn_among f at body (t ∷ ts) zero d all h = all.0
turn_among f at body (t ∷ ts) (suc i) d all h = turn_among f at body ts i d all.1 (let less : i < length ts = omega (arith, h) in less)

pub turns_more : (is_of later : List Declaration → Type 0) (g : Setting) (ts : List Turn) (body : Block) (i : ℕ) (d v : Turn) (s u w : State) (one : Option Outcome)
    → Keeps is_of g (Turns ts body) s None u → i < length ts → v ≡ get_or ts i d → ((schema : List Declaration) → is_of schema → later schema)
    → Keeps later g (Turns (v ∷ []) body) u one w → one ≡ None → Keeps is_of g (Turns ts body) s None w
turns_more is_of later g ts body i d v s u w one before h e same more z = record {
  keeps = λ f at frame setting own inside holds none.
      let first : Turned f at (calm s) (calm u) = before.keeps f at frame setting own inside holds refl in
      let within : TurnIn f at body v = subst (TurnIn f at body) (sym e) (turn_among f at body ts i d inside h) in
      turned_more f at (calm s) (calm u) (calm w) first (more.keeps f at frame setting (same f.schema own) (within, tt) first.holds z);
}

pub ruleset turning = (keeps_ended, turns_none)

-- a loop
pub keeps_loop : (is_of : List Declaration → Type 0) (g : Setting) (ts : List Turn) (body : Block) (s u w : State) (one : Option Outcome)
    → Keeps is_of g (Turns ts body) s one u → one ≡ None → ((t : Tables) → left_loop body (stand t u) ≡ Goes (stand t w)) → Keeps is_of g (Loop ts body) s None w
keeps_loop is_of g ts body s u w one k z e = record {
  keeps = λ f at frame setting own inside holds none. record { mid = calm u; turned = k.keeps f at frame setting own inside holds z; leaves = e empty };
}

pub ruleset loops = (keeps_ended, keeps_loop)

rows_all : (f : Frame) (at : Scope) (body : Block) (u r table : ℕ) (ks : List Key) → RowTurnIn f at u r table body → TurnsIn f at body (row_turns u r table ks)
rows_all f at body u r table [] inside = tt
rows_all f at body u r table (k ∷ ks) inside = (inside, rows_all f at body u r table ks inside)

pub keeps_for : (is_of later : List Declaration → Type 0) (g : Setting) (d : Command) (r table : Ident) (test : Option Test) (body : Block) (ts ls : List Turn) (s w : State) (end : Option Outcome)
    → d ≡ ForRows r table test body → AreRowTurns (unit_of g.loops r.num) r.num table.num ts → ls ≡ ts → ((schema : List Declaration) → is_of schema → later schema)
    → Keeps later g (Loop ls body) s end w → Keeps is_of g (Statement d) s end w
keeps_for is_of later g d r table test body ts ls s w end e kind i same more = keeps_same is_of g d (ForRows r table test body) s end w e (record {
  keeps = λ f at frame setting own inside holds none.
      let one : RowTurnIn f at (unit_of g.loops r.num) r.num table.num body = record {
        variable = r;
        of_table = table;
        condition = test;
        command = inside;
        same_row = refl;
        same_table = refl;
        same_unit = ap (λ ls. unit_of ls r.num) setting.loops;
      } in
      let all : TurnsIn f at body ls = subst (TurnsIn f at body) (sym (i ∙ kind.are)) (rows_all f at body (unit_of g.loops r.num) r.num table.num kind.keys one) in
      let done = more.keeps f at frame setting (same f.schema own) all holds none in
      makes_rows f at r table test body (calm s) done.mid (calm w) done.turned done.leaves;
})

abbrev AreIntegers : List Val → Type 0
AreIntegers [] = Unit {0}
AreIntegers (v ∷ vs) = HasType types.Int v × AreIntegers vs

all_integers : (ns : List ℤ) → AreIntegers (map (λ n. Int n) ns)
all_integers [] = tt
all_integers (n ∷ ns) = (tt, all_integers ns)

integers : (arg : Option Arg) → AreIntegers (items_of arg)
integers None = tt
integers (Some (args.Int n)) = tt
integers (Some (args.Text t)) = tt
integers (Some (args.Ints ns)) = all_integers ns

items_all : (f : Frame) (at : Scope) (body : Block) (x list : Ident) (u : ℕ) (vs : List Val) → CommandIn f at (ForEach x list body) → u ≡ unit_of (loop_variables f.txn.body) x.num
    → AreIntegers vs → TurnsIn f at body (item_turns u x.num vs)
items_all f at body x list u [] command unit all = tt
items_all f at body x list u (v ∷ vs) command unit all =
    let one : ItemTurnIn f at u x.num v body = record { name = x; list = list; command = command; same_variable = refl; same_unit = unit; integer = all.0 } in
    (one, items_all f at body x list u vs command unit all.1)

pub keeps_each : (is_of : List Declaration → Type 0) (g : Setting) (d : Command) (x list : Ident) (body : Block) (ts ls : List Turn) (s w : State) (end : Option Outcome)
    → d ≡ ForEach x list body → ts ≡ item_turns (unit_of g.loops x.num) x.num (items_of (slice_get g.arguments list.num)) → ls ≡ ts
    → Keeps is_of g (Loop ls body) s end w → Keeps is_of g (Statement d) s end w
keeps_each is_of g d x list body ts ls s w end e are i more = keeps_same is_of g d (ForEach x list body) s end w e (record {
  keeps = λ f at frame setting own inside holds none.
      let all : TurnsIn f at body ls = subst (TurnsIn f at body) (sym (i ∙ are))
      (items_all f at body x list (unit_of g.loops x.num) (items_of (slice_get g.arguments list.num)) inside (ap (λ ls. unit_of ls x.num) setting.loops) (integers (slice_get g.arguments list.num))) in
      let done = more.keeps f at frame setting own all holds none in
      makes_items f at x list body (calm s) done.mid (calm w) done.turned done.leaves;
})

-- a row that was looked up
pub finds_ended : (is_of : List Declaration → Type 0) (p : Place) (step : Option Row → Stand → Flow) (s : State) (e : Outcome) (s' : State) → LooksUp is_of p step s (Some e) s'
finds_ended is_of p step s e s' = record { finds = λ schema is own none. absurd (let bad : Some e ≡ None = none in cc) }

pub finds : (is_of : List Declaration → Type 0) (p : Place) (step : Option Row → Stand → Flow) (own : List (Place × LeftRow)) (found : Option LeftRow) (s : State) (end : Option Outcome) (s' : State)
    → FoundFits is_of own p (left_rows found) → own ≡ s.own.items
    → ((t : Tables) → step (left_rows found) (stand t s) ≡ flow_of end (stand t s')) → LooksUp is_of p step s end s'
finds is_of p step own found s end s' fits own_is made = record {
  finds = λ schema is all none. record {
    row = left_rows found;
    fits = found_fits is_of schema own p (left_rows found) fits is (subst (λ l. AreFit schema (over l empty)) (sym own_is) all);
    made = goes end (step (left_rows found) (calm s)) (calm s') (made empty) none;
  };
}

own_fits : (f : Frame) (at : Scope) (s u : State) → Holds f at (calm s) → calm u ≡ with_scope (calm s) (scope_of u.scope) → AreFit f.schema (calm u).tables
own_fits f at s u holds after = subst (λ st. AreFit f.schema st.tables) (sym after) (λ p. own_rows_fit f at (calm s) p (get (calm s).tables p) holds refl)

pub keeps_fetch : (is_of : List Declaration → Type 0) (g : Setting) (r table : Ident) (key : List Term) (p : Place) (own : List (Place × LeftRow)) (values : Option (List Val)) (vs : List Val) (found : Option LeftRow) (row : LeftRow) (s u w : State)
    → values_of key (scope_of s.scope) ≡ evaluated values u.scope → values ≡ Some vs → calm u ≡ with_scope (calm s) (scope_of u.scope) → p ≡ place_of_row table vs
    → FoundFits is_of own p (left_rows found) → own ≡ u.own.items → found ≡ Some row
    → ((t : Tables) → stand t w ≡ with_scope (stand t u) (with_row r.num row.values (stand t u).scope)) → Keeps is_of g (Statement (Fetch r table key)) s None w
keeps_fetch is_of g r table key p own values vs found row s u w e z after place fits own_is found_is binds = record {
  keeps = λ f at frame setting is inside holds none.
      let fit : RowAt f.schema (place_of_row table vs) (Some (left_row row)) =
      subst (λ q. RowAt f.schema q (Some (left_row row))) place (subst (λ o. RowAt f.schema p (left_rows o)) found_is
      (found_fits is_of f.schema own p (left_rows found) fits is (subst (λ l. AreFit f.schema (over l empty)) (sym own_is) (own_fits f at s u holds after)))) in
      subst (Makes f at (Fetch r table key) (calm s)) (sym (binds empty ∙ ap (λ q. with_scope q (with_row r.num row.values q.scope)) after))
      (makes_fetch f at r table key (calm s) vs (scope_of u.scope) (left_row row) inside holds (e ∙ ap (λ o. evaluated o u.scope) z) fit);
}

pub keeps_insert : (is_of : List Declaration → Type 0) (g : Setting) (table : Ident) (terms : List Term) (d : Declaration) (p : Place) (values : Option (List Val)) (vs : List Val) (s u w : State) (end : Option Outcome)
    → values_of terms (scope_of s.scope) ≡ evaluated values u.scope → values ≡ Some vs → calm u ≡ with_scope (calm s) (scope_of u.scope) → slice_get g.schema table.num ≡ Some d
    → p ≡ record { table = table.num; key = key_in d.key vs } → LooksUp is_of p (λ row st. inserted d p vs row st) u end w → Keeps is_of g (Statement (Insert table terms)) s end w
keeps_insert is_of g table terms d p values vs s u w end e z after declared place looks = record {
  keeps = λ f at frame setting is inside holds none.
      let found = looks.finds f.schema is (own_fits f at s u holds after) none in
      makes_insert f at table terms (calm s) vs (scope_of u.scope) d p found.row (calm w) inside holds (e ∙ ap (λ o. evaluated o u.scope) z)
      (ap (λ l. slice_get l table.num) (sym setting.schema) ∙ declared) place found.fits (ap (λ st. inserted d p vs found.row st) (sym after) ∙ found.made);
}

pub keeps_fresh : (is_of : List Declaration → Type 0) (g : Setting) (x table : Ident) (terms : List Term) (d : Declaration) (p : Place) (values : Option (List Val)) (vs : List Val) (s u w : State) (end : Option Outcome)
    → values_of terms (scope_of s.scope) ≡ evaluated values u.scope → values ≡ Some vs → calm u ≡ with_scope (calm s) (scope_of u.scope) → slice_get g.schema table.num ≡ Some d
    → p ≡ record { table = table.num; key = drawn_key g.first (calm s).effects } → LooksUp is_of p (λ row st. drawn x.num d p vs row st) u end w → Keeps is_of g (Statement (Fresh x table terms)) s end w
keeps_fresh is_of g x table terms d p values vs s u w end e z after declared place looks = record {
  keeps = λ f at frame setting is inside holds none.
      let found = looks.finds f.schema is (own_fits f at s u holds after) none in
      let here : p ≡ record { table = table.num; key = drawn_key f.first (calm s).effects } =
      place ∙ ap (λ n. let q : Place = record { table = table.num; key = drawn_key n (calm s).effects } in q) setting.first in
      makes_fresh f at x table terms (calm s) vs (scope_of u.scope) d found.row (calm w) inside holds (e ∙ ap (λ o. evaluated o u.scope) z)
      (ap (λ l. slice_get l table.num) (sym setting.schema) ∙ declared)
      (ap (λ q. drawn x.num d q vs found.row (with_scope (calm s) (scope_of u.scope))) (sym here) ∙ ap (λ st. drawn x.num d p vs found.row st) (sym after) ∙ found.made);
}

-- the row that has to be present
record IsPresent (row : Option Row) (step : Row → Flow) (st : Stand) : Type 0 where
  there : Row
  is : row ≡ Some there
  made : step there ≡ Goes st

present : (row : Option Row) (step : Row → Flow) (st : Stand) → on_present row step ≡ Goes st → IsPresent row step st
present None step st e = absurd (let bad : Ends outcomes.NoRow ≡ Goes st = e in cc)
present (Some row) step st e = by_flag row.present refl e
  where
    by_flag : (b : Bool) → row.present ≡ b → (if b then step row else Ends outcomes.NoRow) ≡ Goes st → IsPresent (Some row) step st
    by_flag true is made = record { there = row; is = refl; made = made }
    by_flag false is made = absurd (let bad : Ends outcomes.NoRow ≡ Goes st = made in cc)

pub keeps_update : (is_of : List Declaration → Type 0) (g : Setting) (table : Ident) (key : List Term) (sets : List (Ident × Term)) (d : Declaration) (p : Place) (values : Option (List Val)) (vs : List Val) (s u w : State) (end : Option Outcome)
    → values_of key (scope_of s.scope) ≡ evaluated values u.scope → values ≡ Some vs → calm u ≡ with_scope (calm s) (scope_of u.scope) → slice_get g.schema table.num ≡ Some d → p ≡ place_of_row table vs
    → LooksUp is_of p (λ row st. on_present row (updated d p sets st)) u end w → Keeps is_of g (Statement (Update table key sets)) s end w
keeps_update is_of g table key sets d p values vs s u w end e z after declared place looks = record {
  keeps = λ f at frame setting is inside holds none.
      let found = looks.finds f.schema is (own_fits f at s u holds after) none in
      let row = present found.row (updated d p sets (calm u)) (calm w) found.made in
      makes_update f at table key sets (calm s) vs (scope_of u.scope) d row.there (calm w) inside holds (e ∙ ap (λ o. evaluated o u.scope) z)
      (ap (λ l. slice_get l table.num) (sym setting.schema) ∙ declared) (subst (λ q. RowAt f.schema q (Some row.there)) place (subst (RowAt f.schema p) row.is found.fits))
      (ap (λ q. updated d q sets (with_scope (calm s) (scope_of u.scope)) row.there) (sym place) ∙ ap (λ st. updated d p sets st row.there) (sym after) ∙ row.made);
}

pub keeps_remove : (is_of : List Declaration → Type 0) (g : Setting) (table : Ident) (key : List Term) (p : Place) (own : List (Place × LeftRow)) (values : Option (List Val)) (vs : List Val) (found : Option LeftRow) (row : LeftRow) (s u w : State) (end : Option Outcome)
    → values_of key (scope_of s.scope) ≡ evaluated values u.scope → values ≡ Some vs → calm u ≡ with_scope (calm s) (scope_of u.scope) → p ≡ place_of_row table vs
    → FoundFits is_of own p (left_rows found) → own ≡ u.own.items → found ≡ Some row
    → ((t : Tables) → removed p (stand t u) (left_row row) ≡ flow_of end (stand t w)) → Keeps is_of g (Statement (Remove table key)) s end w
keeps_remove is_of g table key p own values vs found row s u w end e z after place fits own_is found_is made = record {
  keeps = λ f at frame setting is inside holds none.
      let fit : RowAt f.schema (place_of_row table vs) (Some (left_row row)) =
      subst (λ q. RowAt f.schema q (Some (left_row row))) place (subst (λ o. RowAt f.schema p (left_rows o)) found_is
      (found_fits is_of f.schema own p (left_rows found) fits is (subst (λ l. AreFit f.schema (over l empty)) (sym own_is) (own_fits f at s u holds after)))) in
      makes_remove f at table key (calm s) vs (scope_of u.scope) (left_row row) (calm w) inside holds (e ∙ ap (λ o. evaluated o u.scope) z) fit
      (ap (λ q. removed q (with_scope (calm s) (scope_of u.scope)) (left_row row)) (sym place) ∙ ap (λ st. removed p st (left_row row)) (sym after) ∙ goes end (removed p (calm u) (left_row row)) (calm w) (made empty) none);
}

pub ruleset steps = (keeps_ended, finds_ended, finds)
