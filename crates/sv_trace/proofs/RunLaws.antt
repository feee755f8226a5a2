-- The meaning of a run keeps what holds: by its statements, its blocks and the turns of its loops.
use Rattle.std.proofs.Common.{◌≡◌, ℕ, if◌then◌else◌, Bool, true, false, List, [], ◌∷◌, map, Option, Some, None, slice_get, refl, sym, subst, arith}
use Rattle.std.specs.FinMap.{get}
use Rattle.std.proofs.lemmas.List.Elements.{All-nil}
use Rattle.sv_value.specs.declared.values.Key.{Key}
use Rattle.sv_value.specs.declared.values.Val.{Val}
use Rattle.sv_value.specs.declared.values.Val.TheVariants as vals
use Rattle.sv_app.specs.declared.apps.Ident.{Ident}
use Rattle.sv_app.specs.declared.names.Meaning.TheVariants.{Row as RowOf, Constant}
use Rattle.sv_app.specs.declared.places.Place.{Place}
use Rattle.sv_app.specs.declared.requests.Arg.{Arg}
use Rattle.sv_app.specs.declared.requests.Arg.TheVariants as args
use Rattle.sv_app.specs.declared.schemas.Ty.TheVariants as types
use Rattle.sv_app.specs.Fitting.{HasType}
use Rattle.sv_app.specs.Schema.{Declaration}
use Rattle.sv_app.specs.Scopes.{Scope, knowing, opening}
use Rattle.sv_app.specs.Shaped.{Shaped}
use Rattle.sv_app.specs.Tables.{Row}
use Rattle.sv_app.specs.Trees.{Term, Test, Command, Declare, Assign, Fetch, Choose, ForRows, ForEach, Insert, Fresh, Update, Remove, Abort, Reply, Block, Finish, Then}
use Rattle.sv_app.specs.TxnTyping.{behind}
use Rattle.sv_app.specs.Units.{loop_variables, unit_of}
use Rattle.sv_effect.specs.declared.outcomes.Outcome.TheVariants as outcomes
use Rattle.sv_effect.specs.Fits.{EffectFits}
use Rattle.sv_effect.specs.Run.{Setting, Stand, Flow, Goes, Ends, then_do, with_scope, on_truth, on_present, on_table, on_keys, only, with_row, with_value, place_of_row, fetched, inserted, updated, removed, meeting, present_keys, turns, begun, closed, instance, if_present, row_turn, item_turn, left_loop, items_of, run_command, run_block, body_of, run_body, run, started, result_of, drawn}
use Rattle.sv_effect.specs.RunChanges.{key_in, drawn_key}
use Rattle.sv_effect.specs.RunValues.{Evaluated, Leaves, Gives, values_of, truth_of}
use Rattle.sv_trace.specs.Laws.{IsShapedRun, RunsAreShaped}
use Rattle.sv_trace.specs.Standing.{Frame, IsFrame, BlockIn, CommandIn, Holds, Passes, Makes, Turned}
use Rattle.sv_trace.proofs.BlockLaws.{first_in, rest_in, passes_finish, passes_then}
use Rattle.sv_trace.proofs.ChangeLaws.{own_rows_fit, makes_remove}
use Rattle.sv_trace.proofs.FreshLaws.{makes_fresh}
use Rattle.sv_trace.proofs.InsertLaws.{makes_insert}
use Rattle.sv_trace.proofs.LoopLaws.{yes_in, no_in, test_holds, makes_yes, makes_no, rows_in, items_in, row_begins, item_begins, row_turn_closes, item_turn_closes, turned_none, turned_more, makes_rows, makes_items}
use Rattle.sv_trace.proofs.OpeningLaws.{body_in, begins_on, completes_on}
use Rattle.sv_trace.proofs.StatementLaws.{same_stand, WentOn, on_value_goes, makes_declare, makes_assign, makes_fetch, makes_reply}
use Rattle.sv_trace.proofs.UnitLaws.{Each}
use Rattle.sv_trace.proofs.UpdateLaws.{makes_update}

-- how a run went on
pub record WentThrough (first : Flow) (go : Stand → Flow) (end : Stand) : Type 0 where
  pub mid : Stand
  pub first_is : first ≡ Goes mid
  pub rest : go mid ≡ Goes end

pub goes_on : (first : Flow) (go : Stand → Flow) (end : Stand) → then_do first go ≡ Goes end → WentThrough first go end
goes_on (Goes st) go end is = record { mid = st; first_is = refl; rest = is }
goes_on (Ends o) go end is = absurd cc

pub record Present (o : Option Row) (go : Row → Flow) (end : Stand) : Type 0 where
  pub row : Row
  pub there : o ≡ Some row
  pub rest : go row ≡ Goes end

pub present : (o : Option Row) (go : Row → Flow) (end : Stand) → on_present o go ≡ Goes end → Present o go end
present None go end is = absurd cc
present (Some row) go end is = by_mark row.present is
  where
    by_mark : (b : Bool) → (if b then go row else Ends outcomes.NoRow) ≡ Goes end → Present (Some row) go end
    by_mark true e = record { row = row; there = refl; rest = e }
    by_mark false e = absurd cc

-- a block runs as it passes
abbrev pub Run : (Stand → Flow) → Frame → Scope → Block → Type 0
Run go f at b = (st end : Stand) → Holds f at st → go st ≡ Goes end → Passes f at b st end

-- the turns of a loop, each of which is one
all_turned : {A : Type 0} (P : A → Type 0) (f : Frame) (at : Scope) (xs : List A) (turn : A → Stand → Flow) → Each P xs → ((x : A) (st end : Stand) → P x → Holds f at st → turn x st ≡ Goes end → Turned f at st end) → (st end : Stand)
    → Holds f at st → turns xs turn st ≡ Goes end → Turned f at st end
all_turned P f at [] turn all one st end holds is = subst (Turned f at st) (same_stand st end is) (turned_none f at st holds)
all_turned P f at (x ∷ xs) turn all one st end holds is =
    let went = goes_on (turn x st) (turns xs turn) end is in
    let first = one x st went.mid all.0 holds went.first_is in
    turned_more f at st went.mid end first (all_turned P f at xs turn all.1 one went.mid end first.holds went.rest)

module _ (f : Frame) where
  abbrev pub setting : Setting
  setting = record { schema = f.schema; arguments = f.args; first = f.first; loops = loop_variables f.txn.body }

  pub turn_of_row : (at : Scope) (r t : Ident) (test : Option Test) (body : Block) → CommandIn f at (ForRows r t test body) → Run (run_block setting body) f (knowing at r (RowOf t)) body → (k : Key) (st end : Stand) → Holds f at st
      → row_turn (unit_of (loop_variables f.txn.body) r.num) r.num t.num (run_block setting body) k st ≡ Goes end → Turned f at st end
  turn_of_row at r t test body command run k st end holds is = by_row (get st.tables p) refl is
    where
      p : Place
      p = record { table = t.num; key = k }

      u : ℕ
      u = unit_of (loop_variables f.txn.body) r.num

      go : Row → Stand → Flow
      go row = instance u (λ z. run_block setting body (with_scope z (with_row r.num row.values z.scope)))

      skipped : Goes st ≡ Goes end → Turned f at st end
      skipped e = subst (Turned f at st) (same_stand st end e) (turned_none f at st holds)

      by_row : (o : Option Row) → get st.tables p ≡ o → if_present o go st ≡ Goes end → Turned f at st end
      by_row None found e = skipped e
      by_row (Some row) found e = by_mark row.present e
        where
          by_mark : (b : Bool) → (if b then go row st else Goes st) ≡ Goes end → Turned f at st end
          by_mark false e = skipped e
          by_mark true e =
              let begin : Stand = with_scope (begun u st) (with_row r.num row.values (begun u st).scope) in
              let went = goes_on (run_block setting body begin) (λ z. Goes (closed st.scope.progress z)) end e in
              let passes = run begin went.mid (row_begins f at r t test body u k row st command holds (own_rows_fit f at st p (Some row) holds found)) went.first_is in
              subst (Turned f at st) (same_stand (closed st.scope.progress went.mid) end went.rest) (row_turn_closes f at r t test body u row st went.mid command refl passes)

  pub turn_of_item : (at : Scope) (x l : Ident) (body : Block) → CommandIn f at (ForEach x l body) → Run (run_block setting body) f (knowing at x Constant) body → (v : Val) (st end : Stand) → HasType types.Int v → Holds f at st
      → item_turn (unit_of (loop_variables f.txn.body) x.num) x.num (run_block setting body) v st ≡ Goes end → Turned f at st end
  turn_of_item at x l body command run v st end fits holds is =
      let u : ℕ = unit_of (loop_variables f.txn.body) x.num in
      let begin : Stand = with_scope (begun u st) (with_value x.num v (begun u st).scope) in
      let went = goes_on (run_block setting body begin) (λ z. Goes (closed st.scope.progress z)) end is in
      let passes = run begin went.mid (item_begins f at x l body u v st command holds fits) went.first_is in
      subst (Turned f at st) (same_stand (closed st.scope.progress went.mid) end went.rest) (item_turn_closes f at x l body u v st went.mid command refl passes)

  all_keys : (ks : List Key) → Each (λ k. Unit {0}) ks
  all_keys [] = tt
  all_keys (k ∷ ks) = (tt, all_keys ks)

  pub integers : (o : Option Arg) → Each (HasType types.Int) (items_of o)
  integers None = tt
  integers (Some (args.Int n)) = tt
  integers (Some (args.Text t)) = tt
  integers (Some (args.Ints ns)) = each ns
    where
      each : (ns : List _) → Each (HasType types.Int) (map (λ n. vals.Int n) ns)
      each [] = tt
      each (n ∷ ns) = (tt, each ns)

  of_rows : (at : Scope) (r t : Ident) (test : Option Test) (body : Block) (st end : Stand) → CommandIn f at (ForRows r t test body) → Run (run_block setting body) f (knowing at r (RowOf t)) body → Holds f at st
      → run_command setting (ForRows r t test body) st ≡ Goes end → Makes f at (ForRows r t test body) st end
  of_rows at r t test body st end command run holds is = by_keys (only (meeting r.num t.num test st.tables (present_keys st.tables t.num) st.scope)) is
    where
      turn : Key → Stand → Flow
      turn = row_turn (unit_of (loop_variables f.txn.body) r.num) r.num t.num (run_block setting body)

      by_keys : (o : Option (List Key)) → on_keys o (λ ks. then_do (turns ks turn st) (left_loop body)) ≡ Goes end → Makes f at (ForRows r t test body) st end
      by_keys None e = absurd cc
      by_keys (Some ks) e =
          let went = goes_on (turns ks turn st) (left_loop body) end e in
          let turned = all_turned (λ k. Unit {0}) f at ks turn (all_keys ks) (λ k one two unit held step. turn_of_row at r t test body command run k one two held step) st went.mid holds went.first_is in
          makes_rows f at r t test body st went.mid end turned went.rest

  of_items : (at : Scope) (x l : Ident) (body : Block) (st end : Stand) → CommandIn f at (ForEach x l body) → Run (run_block setting body) f (knowing at x Constant) body → Holds f at st
      → run_command setting (ForEach x l body) st ≡ Goes end → Makes f at (ForEach x l body) st end
  of_items at x l body st end command run holds is =
      let turn : Val → Stand → Flow = item_turn (unit_of (loop_variables f.txn.body) x.num) x.num (run_block setting body) in
      let items : List Val = items_of (slice_get f.args l.num) in
      let went = goes_on (turns items turn st) (left_loop body) end is in
      let turned = all_turned (HasType types.Int) f at items turn (integers (slice_get f.args l.num)) (λ v one two fits held step. turn_of_item at x l body command run v one two fits held step) st went.mid holds went.first_is in
      makes_items f at x l body st went.mid end turned went.rest

  of_choice : (at : Scope) (test : Test) (ys ns : Block) (st end : Stand) → CommandIn f at (Choose test ys ns) → Run (run_block setting ys) f at ys → Run (run_block setting ns) f at ns → Holds f at st
      → run_command setting (Choose test ys ns) st ≡ Goes end → Makes f at (Choose test ys ns) st end
  of_choice at test ys ns st end command run_yes run_no holds is = by_truth (truth_of test st.scope) refl is
    where
      by_truth : (o : Evaluated Bool) → truth_of test st.scope ≡ o → on_truth o st (run_block setting ys) (run_block setting ns) ≡ Goes end → Makes f at (Choose test ys ns) st end
      by_truth Leaves gives e = absurd cc
      by_truth (Gives true z) gives e = makes_yes f at test ys ns st z end command holds gives (run_yes (with_scope st z) end (test_holds f at test ys ns st true z command holds gives) e)
      by_truth (Gives false z) gives e = makes_no f at test ys ns st z end command holds gives (run_no (with_scope st z) end (test_holds f at test ys ns st false z command holds gives) e)

  of_fetch : (at : Scope) (r t : Ident) (k : List Term) (st end : Stand) → CommandIn f at (Fetch r t k) → Holds f at st → run_command setting (Fetch r t k) st ≡ Goes end → Makes f at (Fetch r t k) st end
  of_fetch at r t k st end command holds is =
      let ran = on_value_goes (values_of k st.scope) st (λ vs z. on_present (get z.tables (place_of_row t vs)) (fetched r.num z)) end is in
      let p : Place = place_of_row t ran.is in
      let row = present (get st.tables p) (fetched r.num (with_scope st ran.scope)) end ran.goes in
      subst (Makes f at (Fetch r t k) st) (same_stand (with_scope st (with_row r.num row.row.values ran.scope)) end row.rest)
      (makes_fetch f at r t k st ran.is ran.scope row.row command holds ran.gives (own_rows_fit f at st p (Some row.row) holds row.there))

  of_remove : (at : Scope) (t : Ident) (k : List Term) (st end : Stand) → CommandIn f at (Remove t k) → Holds f at st → run_command setting (Remove t k) st ≡ Goes end → Makes f at (Remove t k) st end
  of_remove at t k st end command holds is =
      let ran = on_value_goes (values_of k st.scope) st (λ vs z. on_present (get z.tables (place_of_row t vs)) (removed (place_of_row t vs) z)) end is in
      let p : Place = place_of_row t ran.is in
      let row = present (get st.tables p) (removed p (with_scope st ran.scope)) end ran.goes in
      makes_remove f at t k st ran.is ran.scope row.row end command holds ran.gives (own_rows_fit f at st p (Some row.row) holds row.there) row.rest

  of_update : (at : Scope) (t : Ident) (k : List Term) (sets : List (Ident × Term)) (st end : Stand) → CommandIn f at (Update t k sets) → Holds f at st → run_command setting (Update t k sets) st ≡ Goes end → Makes f at (Update t k sets) st end
  of_update at t k sets st end command holds is = by_table (slice_get f.schema t.num) refl ran.goes
    where
      ran : WentOn (values_of k st.scope) st (λ vs z. on_table (slice_get f.schema t.num) (λ d. on_present (get z.tables (place_of_row t vs)) (updated d (place_of_row t vs) sets z))) end
      ran = on_value_goes (values_of k st.scope) st (λ vs z. on_table (slice_get f.schema t.num) (λ d. on_present (get z.tables (place_of_row t vs)) (updated d (place_of_row t vs) sets z))) end is

      p : Place
      p = place_of_row t ran.is

      by_table : (o : Option Declaration) → slice_get f.schema t.num ≡ o → on_table o (λ d. on_present (get st.tables p) (updated d p sets (with_scope st ran.scope))) ≡ Goes end → Makes f at (Update t k sets) st end
      by_table None declared e = absurd cc
      by_table (Some d) declared e =
          let row = present (get st.tables p) (updated d p sets (with_scope st ran.scope)) end e in
          makes_update f at t k sets st ran.is ran.scope d row.row end command holds ran.gives declared (own_rows_fit f at st p (Some row.row) holds row.there) row.rest

  of_insert : (at : Scope) (t : Ident) (es : List Term) (st end : Stand) → CommandIn f at (Insert t es) → Holds f at st → run_command setting (Insert t es) st ≡ Goes end → Makes f at (Insert t es) st end
  of_insert at t es st end command holds is = by_table (slice_get f.schema t.num) refl ran.goes
    where
      go : List Val → Stand → Flow
      go vs z = on_table (slice_get f.schema t.num) (λ d. let p : Place = record { table = t.num; key = key_in d.key vs } in inserted d p vs (get z.tables p) z)

      ran : WentOn (values_of es st.scope) st go end
      ran = on_value_goes (values_of es st.scope) st go end is

      by_table : (o : Option Declaration) → slice_get f.schema t.num ≡ o
          → on_table o (λ d. let p : Place = record { table = t.num; key = key_in d.key ran.is } in inserted d p ran.is (get st.tables p) (with_scope st ran.scope)) ≡ Goes end → Makes f at (Insert t es) st end
      by_table None declared e = absurd cc
      by_table (Some d) declared e =
          let p : Place = record { table = t.num; key = key_in d.key ran.is } in
          makes_insert f at t es st ran.is ran.scope d p (get st.tables p) end command holds ran.gives declared refl (own_rows_fit f at st p (get st.tables p) holds refl) e

  of_fresh : (at : Scope) (x t : Ident) (es : List Term) (st end : Stand) → CommandIn f at (Fresh x t es) → Holds f at st → run_command setting (Fresh x t es) st ≡ Goes end → Makes f at (Fresh x t es) st end
  of_fresh at x t es st end command holds is = by_table (slice_get f.schema t.num) refl ran.goes
    where
      p : Place
      p = record { table = t.num; key = drawn_key f.first st.effects }

      go : List Val → Stand → Flow
      go vs z = on_table (slice_get f.schema t.num) (λ d. let q : Place = record { table = t.num; key = drawn_key f.first z.effects } in drawn x.num d q vs (get z.tables q) z)

      ran : WentOn (values_of es st.scope) st go end
      ran = on_value_goes (values_of es st.scope) st go end is

      by_table : (o : Option Declaration) → slice_get f.schema t.num ≡ o → on_table o (λ d. drawn x.num d p ran.is (get st.tables p) (with_scope st ran.scope)) ≡ Goes end → Makes f at (Fresh x t es) st end
      by_table None declared e = absurd cc
      by_table (Some d) declared e = makes_fresh f at x t es st ran.is ran.scope d (get st.tables p) end command holds ran.gives declared e

  mutual
    pub of_command : (c : Command) (at : Scope) (st end : Stand) → CommandIn f at c → Holds f at st → run_command setting c st ≡ Goes end → Makes f at c st end
    of_command (Declare x e) at st end command holds is = makes_declare f at x e setting st end command holds is
    of_command (Assign x e) at st end command holds is = makes_assign f at x e setting st end command holds is
    of_command (Fetch r t k) at st end command holds is = of_fetch at r t k st end command holds is
    of_command (Choose test ys ns) at st end command holds is =
        of_choice at test ys ns st end command (λ one two held step. of_block ys at one two (yes_in f at test ys ns command) held step) (λ one two held step. of_block ns at one two (no_in f at test ys ns command) held step) holds is
    of_command (ForRows r t test body) at st end command holds is =
        of_rows at r t test body st end command (λ one two held step. of_block body (knowing at r (RowOf t)) one two (rows_in f at r t test body command) held step) holds is
    of_command (ForEach x l body) at st end command holds is =
        of_items at x l body st end command (λ one two held step. of_block body (knowing at x Constant) one two (items_in f at x l body command) held step) holds is
    of_command (Insert t es) at st end command holds is = of_insert at t es st end command holds is
    of_command (Fresh x t es) at st end command holds is = of_fresh at x t es st end command holds is
    of_command (Update t k sets) at st end command holds is = of_update at t k sets st end command holds is
    of_command (Remove t k) at st end command holds is = of_remove at t k st end command holds is
    of_command (Abort n) at st end command holds is = absurd cc
    of_command (Reply e) at st end command holds is = makes_reply f at e setting st end command holds is

    pub of_block : (b : Block) (at : Scope) (st end : Stand) → BlockIn f at b → Holds f at st → run_block setting b st ≡ Goes end → Passes f at b st end
    of_block Finish at st end block holds is = subst (Passes f at Finish st) (same_stand st end is) (passes_finish f at st holds)
    of_block (Then c b) at st end block holds is =
        let went = goes_on (run_command setting c st) (run_block setting b) end is in
        let makes = of_command c at st went.mid (first_in f at c b block) holds went.first_is in
        passes_then f at c b st went.mid end makes (of_block b (behind at c) went.mid end (rest_in f at c b block) makes.holds went.rest)

pub runs_are_shaped : RunsAreShaped
runs_are_shaped schema txns request txn first t accepted among fits rows =
    ap_run (by_flow (run_block (setting f) txn.body (started request.args t)) refl)
  where
    f : Frame
    f = record { schema = schema; txns = txns; number = request.txn; txn = txn; args = request.args; first = first }

    ap_run : IsShapedRun schema txn (result_of schema (run_block (setting f) txn.body (started request.args t))) → IsShapedRun schema txn (run schema txns request first t)
    ap_run shaped = subst (λ o. IsShapedRun schema txn (run_body schema (body_of o) request.args first t)) (sym among) shaped

    by_flow : (flow : Flow) → run_block (setting f) txn.body (started request.args t) ≡ flow → IsShapedRun schema txn (result_of schema flow)
    by_flow (Ends o) is = record { trace = All-nil (Shaped schema txn); changes = All-nil (EffectFits schema); few = omega arith }
    by_flow (Goes end) is =
        let frame : IsFrame f = record { accepted = accepted; among = among; fits = fits } in
        let passes = of_block f txn.body (opening schema txn.params) (started request.args t) end (body_in f frame) (begins_on f frame t rows) is in
        let done = completes_on f t end passes in
        record { trace = done.0; changes = done.1; few = done.2 }
