-- Choices, and turns of loops.
use Rattle.std.proofs.Common.{◌≡◌, ◌∙◌, ℕ, suc, Bool, true, false, List, [], ◌∷◌, ◌++◌, length, map, Option, Some, slice_get, refl, sym, ap, subst, append-nil, append_assoc}
use Rattle.std.proofs.lemmas.List.Elements.{All-push}
use Rattle.sv_value.specs.declared.values.Key.{Key}
use Rattle.sv_value.specs.declared.values.Val.{Val}
use Rattle.sv_value.specs.declared.values.Val.TheVariants as vals
use Rattle.sv_app.specs.declared.apps.Ident.{Ident}
use Rattle.sv_app.specs.declared.names.Meaning.{Meaning}
use Rattle.sv_app.specs.declared.names.Meaning.TheVariants.{Row as RowOf, Constant}
use Rattle.sv_app.specs.declared.places.Place.{Place}
use Rattle.sv_app.specs.declared.schemas.Ty.TheVariants as types
use Rattle.sv_app.specs.Fitting.{HasType}
use Rattle.sv_app.specs.Paths.{Way, Path, Tells, test_way, on_side, block_path, after_loop}
use Rattle.sv_app.specs.Scopes.{Scope, knowing}
use Rattle.sv_app.specs.Slots.{item}
use Rattle.sv_app.specs.Shaped.{AreOfTypes, Shaped}
use Rattle.sv_app.specs.Symbols.{block_assigns, known_after}
use Rattle.sv_app.specs.Tables.{Row}
use Rattle.sv_app.specs.Trees.{Test, Block, Choose, ForRows, ForEach}
use Rattle.sv_app.specs.Units.{units, loop_variables, unit_of}
use Rattle.sv_effect.specs.Run.{Stand, Goes, with_scope, with_value, with_row, begun, beginning, closed, left_loop, instance_of}
use Rattle.sv_effect.specs.RunValues.{Progress, Scope as Values, Gives, truth_of}
use Rattle.sv_trace.specs.Standing.{Frame, names_in, type_of_val, type_of_got, types_at, BlockIn, CommandIn, RowAt, Holds, way_of, Along, Passes, Makes, Turned}
use Rattle.sv_trace.proofs.BlockLaws.{holds_with, holds_fewer}
use Rattle.sv_trace.proofs.StatementLaws.{same_stand, sees_progress, sees_new_value, sees_row, row_types}
use Rattle.sv_trace.proofs.TermLaws.{Tries, tries, sees_alone}

pub yes_in : (f : Frame) (at : Scope) (test : Test) (ys ns : Block) → CommandIn f at (Choose test ys ns) → BlockIn f at ys
yes_in f at test ys ns command = record { frame = command.frame; outside = command.outside; suits = command.suits.1 }

pub no_in : (f : Frame) (at : Scope) (test : Test) (ys ns : Block) → CommandIn f at (Choose test ys ns) → BlockIn f at ns
no_in f at test ys ns command = record { frame = command.frame; outside = command.outside; suits = command.suits.2 }

tried : (f : Frame) (at : Scope) (test : Test) (ys ns : Block) (st : Stand) (h : Bool) (z : Values) → CommandIn f at (Choose test ys ns) → Holds f at st → truth_of test st.scope ≡ Gives h z → Tries f test st.scope h z
tried f at test ys ns st h z command holds is = tries f at test st.scope h z command.outside holds.sees command.suits.0 is

pub test_holds : (f : Frame) (at : Scope) (test : Test) (ys ns : Block) (st : Stand) (h : Bool) (z : Values) → CommandIn f at (Choose test ys ns) → Holds f at st → truth_of test st.scope ≡ Gives h z
    → Holds f at (with_scope st z)
test_holds f at test ys ns st h z command holds is = holds_with f at at st z holds (sees_alone f at st.scope z holds.sees (tried f at test ys ns st h z command holds is).alone)

-- a side, behind its condition
along_side : (f : Frame) (test : Test) (a b : Way → Path) (side : Way → Path) (s : Values) (h : Bool) (z : Values) (r : Progress) → ((w : Way) → on_side (Tells h w) a b ≡ side w) → Tries f test s h z
    → Along side z.progress r → Along (λ w. on_side (test_way f.schema (names_in f) test w) a b) s.progress r
along_side f test a b side s h z r chosen first second = record {
  grown = first.grown ++ second.grown;
  unit = second.unit ∙ first.unit;
  choices = second.choices ∙ ap (λ l. l ++ second.grown) first.choices ∙ append_assoc s.progress.choices first.grown second.grown;
  leads = λ left.
      ap (λ l. on_side (test_way f.schema (names_in f) test (way_of l s.progress)) a b) (append_assoc first.grown second.grown left)
      ∙ ap (λ t. on_side t a b) (first.tells (second.grown ++ left))
      ∙ chosen (way_of (second.grown ++ left) z.progress)
      ∙ second.leads left;
}

pub makes_yes : (f : Frame) (at : Scope) (test : Test) (ys ns : Block) (st : Stand) (z : Values) (end : Stand) → CommandIn f at (Choose test ys ns) → Holds f at st → truth_of test st.scope ≡ Gives true z
    → Passes f at ys (with_scope st z) end → Makes f at (Choose test ys ns) st end
makes_yes f at test ys ns st z end command holds is passes = record {
  holds = passes.holds;
  along = along_side f test (block_path f.schema (names_in f) ys) (block_path f.schema (names_in f) ns) (block_path f.schema (names_in f) ys) st.scope true z end.scope.progress (λ w. refl)
      (tried f at test ys ns st true z command holds is) passes.along;
}

pub makes_no : (f : Frame) (at : Scope) (test : Test) (ys ns : Block) (st : Stand) (z : Values) (end : Stand) → CommandIn f at (Choose test ys ns) → Holds f at st → truth_of test st.scope ≡ Gives false z
    → Passes f at ns (with_scope st z) end → Makes f at (Choose test ys ns) st end
makes_no f at test ys ns st z end command holds is passes = record {
  holds = passes.holds;
  along = along_side f test (block_path f.schema (names_in f) ys) (block_path f.schema (names_in f) ns) (block_path f.schema (names_in f) ns) st.scope false z end.scope.progress (λ w. refl)
      (tried f at test ys ns st false z command holds is) passes.along;
}

pub rows_in : (f : Frame) (at : Scope) (r t : Ident) (test : Option Test) (body : Block) → CommandIn f at (ForRows r t test body) → BlockIn f (knowing at r (RowOf t)) body
rows_in f at r t test body command = record { frame = command.frame; outside = command.outside; suits = command.suits.2 }

pub items_in : (f : Frame) (at : Scope) (x l : Ident) (body : Block) → CommandIn f at (ForEach x l body) → BlockIn f (knowing at x Constant) body
items_in f at x l body command = record { frame = command.frame; outside = command.outside; suits = command.suits.2 }

-- the begin of a turn, of which its variable isn't known
begun_holds : (f : Frame) (at : Scope) (u : ℕ) (st : Stand) → Holds f at st → Holds f at (begun u st)
begun_holds f at u st holds = holds_with f at at st (begun u st).scope holds (sees_progress f at st.scope (beginning u (suc (length st.instances))) holds.sees)

pub row_begins : (f : Frame) (at : Scope) (r t : Ident) (test : Option Test) (body : Block) (u : ℕ) (k : Key) (row : Row) (st : Stand) → CommandIn f at (ForRows r t test body) → Holds f at st
    → RowAt f.schema (record { table = t.num; key = k }) (Some row) → Holds f (knowing at r (RowOf t)) (with_scope (begun u st) (with_row r.num row.values (begun u st).scope))
row_begins f at r t test body u k row st command holds found =
    let p : Place = record { table = t.num; key = k } in
    let started = begun_holds f at u st holds in
    let typed : map type_of_got row.values ≡ types_at f.schema (item 0 (names_in f).tables r.num) = row_types f.schema p row.values found ∙ ap (types_at f.schema) (sym command.suits.0) in
    holds_with f at (knowing at r (RowOf t)) (begun u st) (with_row r.num row.values (begun u st).scope) started (sees_row f at r t row.values (begun u st).scope typed started.sees)

int_type : (v : Val) → HasType types.Int v → type_of_val v ≡ types.Int
int_type (vals.Int n) fits = refl
int_type (vals.Text text) fits = absurd fits

pub item_begins : (f : Frame) (at : Scope) (x l : Ident) (body : Block) (u : ℕ) (v : Val) (st : Stand) → CommandIn f at (ForEach x l body) → Holds f at st → HasType types.Int v
    → Holds f (knowing at x Constant) (with_scope (begun u st) (with_value x.num v (begun u st).scope))
item_begins f at x l body u v st command holds fits =
    let started = begun_holds f at u st holds in
    holds_with f at (knowing at x Constant) (begun u st) (with_value x.num v (begun u st).scope) started (sees_new_value f at x Constant v (begun u st).scope (λ none. none) (int_type v fits ∙ sym command.suits.0) started.sees)

pub of_types : (tape : List Val) → AreOfTypes (map type_of_val tape) tape
of_types [] = tt
of_types (v ∷ tape) = (one v, of_types tape)
  where
    one : (w : Val) → HasType (type_of_val w) w
    one (vals.Int n) = tt
    one (vals.Text text) = tt

-- an instance that went along a whole unit is shaped
pub whole_shaped : (f : Frame) (u n : ℕ) (body : Block) (p : Progress) → slice_get (units f.txn.body) u ≡ Some body → Along (block_path f.schema (names_in f) body) (beginning u n) p → Shaped f.schema f.txn (instance_of p)
whole_shaped f u n body p unit along = record {
  body = body;
  unit = ap (slice_get (units f.txn.body)) along.unit ∙ unit;
  end = way_of [] p;
  path = ap (λ choices. block_path f.schema (names_in f) body (record { left = choices; known = []; known_old = []; symbols = [] })) (along.choices ∙ sym (append-nil along.grown)) ∙ along.leads [];
  whole = refl;
  tape = of_types p.tape;
}

turn_closes : (f : Frame) (at : Scope) (x : Ident) (m : Meaning) (body : Block) (u n : ℕ) (st begin end : Stand) → slice_get (units f.txn.body) u ≡ Some body → begin.scope.progress ≡ beginning u n
    → Passes f (knowing at x m) body begin end → Turned f at st (closed st.scope.progress end)
turn_closes f at x m body u n st begin end unit begins passes =
    let held = holds_fewer f at x m end passes.holds in
    let path : Along (block_path f.schema (names_in f) body) (beginning u n) end.scope.progress = subst (λ p. Along (block_path f.schema (names_in f) body) p end.scope.progress) begins passes.along in
    record {
      holds = record {
        sees = sees_progress f at end.scope st.scope.progress held.sees;
        tables = held.tables;
        effects = held.effects;
        few = held.few;
        shaped = All-push (Shaped f.schema f.txn) end.instances (instance_of end.scope.progress) held.shaped (whole_shaped f u n body end.scope.progress unit path);
      };
      progress = refl;
    }

pub row_turn_closes : (f : Frame) (at : Scope) (r t : Ident) (test : Option Test) (body : Block) (u : ℕ) (row : Row) (st end : Stand) → CommandIn f at (ForRows r t test body) → u ≡ unit_of (loop_variables f.txn.body) r.num
    → Passes f (knowing at r (RowOf t)) body (with_scope (begun u st) (with_row r.num row.values (begun u st).scope)) end → Turned f at st (closed st.scope.progress end)
row_turn_closes f at r t test body u row st end command unit passes =
    turn_closes f at r (RowOf t) body u (suc (length st.instances)) st (with_scope (begun u st) (with_row r.num row.values (begun u st).scope)) end (ap (slice_get (units f.txn.body)) unit ∙ command.suits.1) refl passes

pub item_turn_closes : (f : Frame) (at : Scope) (x l : Ident) (body : Block) (u : ℕ) (v : Val) (st end : Stand) → CommandIn f at (ForEach x l body) → u ≡ unit_of (loop_variables f.txn.body) x.num
    → Passes f (knowing at x Constant) body (with_scope (begun u st) (with_value x.num v (begun u st).scope)) end → Turned f at st (closed st.scope.progress end)
item_turn_closes f at x l body u v st end command unit passes =
    turn_closes f at x Constant body u (suc (length st.instances)) st (with_scope (begun u st) (with_value x.num v (begun u st).scope)) end (ap (slice_get (units f.txn.body)) unit ∙ command.suits.1) refl passes

pub turned_none : (f : Frame) (at : Scope) (st : Stand) → Holds f at st → Turned f at st st
turned_none f at st holds = record { holds = holds; progress = refl }

pub turned_more : (f : Frame) (at : Scope) (st mid end : Stand) → Turned f at st mid → Turned f at mid end → Turned f at st end
turned_more f at st mid end first second = record { holds = second.holds; progress = second.progress ∙ first.progress }

after_turns : (f : Frame) (at : Scope) (body : Block) (st mid end : Stand) → Turned f at st mid → left_loop body mid ≡ Goes end → Holds f at end × Along (after_loop body) st.scope.progress end.scope.progress
after_turns f at body st mid end turned is = subst (λ (q : Stand). Holds f at q × Along (after_loop body) st.scope.progress q.scope.progress) (same_stand _ end is) (holds_with f at at mid _ turned.holds (sees_progress f at mid.scope _ turned.holds.sees), along)
  where
    after : Progress → Progress
    after p = record p { known = known_after (block_assigns body) p.known }

    along : Along (after_loop body) st.scope.progress (after mid.scope.progress)
    along = subst (λ p. Along (after_loop body) st.scope.progress (after p)) (sym turned.progress) (record { grown = []; unit = refl; choices = sym (append-nil st.scope.progress.choices); leads = λ left. refl })

pub makes_rows : (f : Frame) (at : Scope) (r t : Ident) (test : Option Test) (body : Block) (st mid end : Stand) → Turned f at st mid → left_loop body mid ≡ Goes end → Makes f at (ForRows r t test body) st end
makes_rows f at r t test body st mid end turned is = let done = after_turns f at body st mid end turned is in record { holds = done.0; along = done.1 }

pub makes_items : (f : Frame) (at : Scope) (x l : Ident) (body : Block) (st mid end : Stand) → Turned f at st mid → left_loop body mid ≡ Goes end → Makes f at (ForEach x l body) st end
makes_items f at x l body st mid end turned is = let done = after_turns f at body st mid end turned is in record { holds = done.0; along = done.1 }
