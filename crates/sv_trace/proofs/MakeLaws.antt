-- The changes of a run find their rows, and make the tables that the run leaves.
use Rattle.std.proofs.Common.{◌≡◌, ◌∙◌, ℕ, if◌then◌else◌, nat_lt, Bool, true, false, List, [], ◌∷◌, ◌++◌, length, map, Option, Some, None, slice_get, refl, sym, ap, subst}
use Rattle.std.specs.FinMap.{get, insert}
use Rattle.sv_value.specs.declared.values.Key.{Key}
use Rattle.sv_value.specs.declared.values.Val.{Val}
use Rattle.sv_app.specs.declared.acts.Act.{Act}
use Rattle.sv_app.specs.declared.acts.Act.TheVariants as acts
use Rattle.sv_app.specs.declared.apps.Ident.{Ident}
use Rattle.sv_app.specs.declared.gots.Got.{Got}
use Rattle.sv_app.specs.declared.places.Place.{Place}
use Rattle.sv_app.specs.Schema.{Declaration}
use Rattle.sv_app.specs.Tables.{Row, Tables}
use Rattle.sv_app.specs.Trees.{Term, Command, Declare, Assign, Fetch, Choose, ForRows, ForEach, Insert, Fresh, Update, Remove, Abort, Reply, Block, Finish, Then}
use Rattle.sv_app.specs.Units.{unit_of, loop_variables}
use Rattle.sv_effect.specs.declared.outcomes.Outcome.TheVariants as outcomes
use Rattle.sv_effect.specs.Acts.{is_draw, IsFound}
use Rattle.sv_effect.specs.Applied.{zeros_of}
use Rattle.sv_effect.specs.BareTables.{got_of}
use Rattle.sv_effect.specs.Effects.{values_before, row_after, with_effect, with_effects, FindsAll}
use Rattle.sv_effect.specs.Run.{Setting, Stand, Flow, Goes, Ends, with_scope, on_value, only, meeting, present_keys, with_row, with_value, place_of_row, row_with, changed, updating, update_over, updated, inserted, assigned, with_symbol, drawn, removed, replied, begun, closed, instance, row_turn, item_turn, left_loop, items_of, run_command, run_block, result_of, body_of, started, left_of}
use Rattle.sv_effect.specs.RunChanges.{Effect, key_in, with_writes, sets_made, in_order, inserts, kept_values, stands, drawn_writes, drawn_key}
use Rattle.sv_effect.specs.RunValues.{value_of, values_of, truth_of}
use Rattle.sv_trace.specs.Laws.{AreMadeOn, RunsMakeTheirTables}
use Rattle.sv_trace.proofs.FlowLaws.{Kept, then_kept, value_kept, truth_kept, present_kept, table_kept, keys_kept, if_present_kept, turns_kept}
use Rattle.sv_trace.proofs.StillLaws.{value_still, values_still, truth_still, sets_still, inserts_still}

-- ---- one change more

effects_more : (schema : List Declaration) (es : List Effect) (e : Effect) (t : Tables) → with_effects schema (es ++ e ∷ []) t ≡ with_effect schema e (with_effects schema es t)
effects_more schema [] e t = refl
effects_more schema (x ∷ es) e t = effects_more schema es e (with_effect schema x t)

finds_more : (schema : List Declaration) (es : List Effect) (e : Effect) (t : Tables) → FindsAll schema es t → IsFound e.act (get (with_effects schema es t) e.place) → FindsAll schema (es ++ e ∷ []) t
finds_more schema [] e t finds here = (here, tt)
finds_more schema (x ∷ es) e t finds here = (finds.0, finds_more schema es e (with_effect schema x t) finds.1 here)

found_kept : (act : Act) (o : Option Row) (row : Row) → is_draw act ≡ false → o ≡ Some row → IsFound act o
found_kept act o row drawn at = subst (IsFound act) (sym at) (by act drawn)
  where
    by : (a : Act) → is_draw a ≡ false → IsFound a (Some row)
    by acts.Insert e = tt
    by acts.Fresh e = absurd cc
    by acts.Update e = tt
    by acts.Remove e = tt

module _ (schema : List Declaration) (t : Tables) where
  -- where a run stands, its changes found their rows and made its tables
  abbrev Made : Stand → Type 0
  Made st = AreMadeOn schema t st.effects st.tables

  changed_made : (e : Effect) (row : Row) (st : Stand) → Made st → row ≡ row_after schema e (get st.tables e.place) → IsFound e.act (get st.tables e.place) → Kept Made (changed e row st)
  changed_made e row st h is found = by (nat_lt (length st.effects) 64)
    where
      by : (b : Bool) → Kept Made (if b then Goes (record st { tables = insert st.tables e.place row; effects = st.effects ++ e ∷ [] }) else Ends outcomes.TooLarge)
      by false = tt
      by true = record {
        find = finds_more schema st.effects e t h.find (subst (λ x. IsFound e.act (get x e.place)) h.leave found);
        leave = (λ i. insert st.tables e.place (is i)) ∙ ap (with_effect schema e) h.leave ∙ sym (effects_more schema st.effects e t);
      }

  updated_made : (d : Declaration) (p : Place) (sets : List (Ident × Term)) (st : Stand) (row : Row) → Made st → get st.tables p ≡ Some row → row.present ≡ true → Kept Made (updated d p sets st row)
  updated_made d p sets st row h at present = value_kept Made (sets_made d.columns sets (updating row.values st.scope)) st _ (sets_still d.columns sets (updating row.values st.scope)) (λ ws s still.
      changed_made _ _ (update_over (with_scope st s)) h
      (λ i. row_with (with_writes (in_order d 0 d.columns ws) (values_before schema p (sym at i))) (updates i))
      (found_kept acts.Update (get st.tables p) row refl at))
    where
      updates : true ≡ stands (get st.tables p)
      updates = sym (ap stands at ∙ present)

  removed_made : (p : Place) (st : Stand) (row : Row) → Made st → get st.tables p ≡ Some row → Kept Made (removed p st row)
  removed_made p st row h at = changed_made _ _ st h (λ i. row_with (values_before schema p (sym at i)) false) (found_kept acts.Remove (get st.tables p) row refl at)

  -- what an insert finds is what its change starts from
  starts_from : (d : Declaration) (p : Place) (o : Option Row) → slice_get schema p.table ≡ Some d → kept_values d p.key o ≡ values_before schema p o
  starts_from d p None declared = ap (λ x. map got_of (zeros_of x p.key)) (sym declared)
  starts_from d p (Some row) declared = refl

  drawn_made : (x : ℕ) (d : Declaration) (p : Place) (vs : List Val) (o : Option Row) (st : Stand) → slice_get schema p.table ≡ Some d → get st.tables p ≡ o → Made st → Kept Made (drawn x d p vs o st)
  drawn_made x d p vs (Some row) st declared at h = tt
  drawn_made x d p vs None st declared at h = changed_made _ _ (assigned x p.key.first (with_symbol p.key.first st)) h
      (λ i. row_with (with_writes (drawn_writes d vs) ((starts_from d p None declared ∙ ap (values_before schema p) (sym at)) i)) true)
      (subst (IsFound acts.Fresh) (sym at) tt)

  inserted_made : (d : Declaration) (p : Place) (vs : List Val) (o : Option Row) (st : Stand) → slice_get schema p.table ≡ Some d → get st.tables p ≡ o → Made st → Kept Made (inserted d p vs o st)
  inserted_made d p vs o st declared at h = by (stands o)
    where
      kept : List Got
      kept = kept_values d p.key o

      by : (b : Bool) → Kept Made (if b then Ends outcomes.Exists else on_value (inserts d vs kept 0 d.columns st.scope) st (λ writes z.
          changed (record { place = p; act = acts.Insert; writes = writes; instance = z.scope.progress.number }) (row_with (with_writes writes kept) true) z))
      by true = tt
      by false = value_kept Made (inserts d vs kept 0 d.columns st.scope) st _ (inserts_still d vs kept 0 d.columns st.scope) (λ ws s still.
          changed_made _ _ (with_scope st s) h (λ i. row_with (with_writes ws ((starts_from d p o declared ∙ ap (values_before schema p) (sym at)) i)) true) tt)

  replied_made : (v : Val) (st : Stand) → Made st → Kept Made (replied v st)
  replied_made v st h = by (nat_lt (length st.replies) 16)
    where
      by : (b : Bool) → Kept Made (if b then Goes (record st { replies = st.replies ++ v ∷ [] }) else Ends outcomes.TooLarge)
      by true = h
      by false = tt

  instance_made : (unit : ℕ) (body : Stand → Flow) → ((z : Stand) → Made z → Kept Made (body z)) → (st : Stand) → Made st → Kept Made (instance unit body st)
  instance_made unit body each st h = then_kept Made Made (body (begun unit st)) (λ z. Goes (closed st.scope.progress z)) (each (begun unit st) h) (λ z hz. hz)

  row_turn_made : (unit r table : ℕ) (body : Stand → Flow) → ((z : Stand) → Made z → Kept Made (body z)) → (k : Key) (st : Stand) → Made st → Kept Made (row_turn unit r table body k st)
  row_turn_made unit r table body each k st h = if_present_kept Made (get st.tables (record { table = table; key = k })) _ st h (λ row.
      instance_made unit (λ z. body (with_scope z (with_row r row.values z.scope))) (λ z hz. each (with_scope z (with_row r row.values z.scope)) hz) st h)

  item_turn_made : (unit x : ℕ) (body : Stand → Flow) → ((z : Stand) → Made z → Kept Made (body z)) → (v : Val) (st : Stand) → Made st → Kept Made (item_turn unit x body v st)
  item_turn_made unit x body each v st h = instance_made unit (λ z. body (with_scope z (with_value x v z.scope))) (λ z hz. each (with_scope z (with_value x v z.scope)) hz) st h

  mutual
    command_made : (g : Setting) → g.schema ≡ schema → (c : Command) (st : Stand) → Made st → Kept Made (run_command g c st)
    command_made g of (Declare x e) st h = value_kept Made (value_of e st.scope) st _ (value_still e st.scope) (λ v s still. h)
    command_made g of (Assign x e) st h = value_kept Made (value_of e st.scope) st _ (value_still e st.scope) (λ v s still. h)
    command_made g of (Fetch r table key) st h = value_kept Made (values_of key st.scope) st _ (values_still key st.scope) (λ vs s still. present_kept Made (get st.tables (place_of_row table vs)) _ (λ row at present. h))
    command_made g of (Choose test ys ns) st h = truth_kept Made (truth_of test st.scope) st (run_block g ys) (run_block g ns) (truth_still test st.scope)
        (λ s still. block_made g of ys (with_scope st s) h) (λ s still. block_made g of ns (with_scope st s) h)
    command_made g of (ForRows r table test body) st h = keys_kept Made (only (meeting r.num table.num test st.tables (present_keys st.tables table.num) st.scope)) _ (λ ks.
        then_kept Made Made _ (left_loop body)
        (turns_kept Made ks (row_turn (unit_of g.loops r.num) r.num table.num (run_block g body)) (row_turn_made (unit_of g.loops r.num) r.num table.num (run_block g body) (block_made g of body)) st h) (λ z hz. hz))
    command_made g of (ForEach x list body) st h = then_kept Made Made _ (left_loop body)
        (turns_kept Made (items_of (slice_get g.arguments list.num)) (item_turn (unit_of g.loops x.num) x.num (run_block g body)) (item_turn_made (unit_of g.loops x.num) x.num (run_block g body) (block_made g of body)) st h) (λ z hz. hz)
    command_made g of (Insert table values) st h = value_kept Made (values_of values st.scope) st _ (values_still values st.scope) (λ vs s still. table_kept Made (slice_get g.schema table.num) _ (λ d declared.
        inserted_made d (record { table = table.num; key = key_in d.key vs }) vs _ (with_scope st s) (ap (λ x. slice_get x table.num) (sym of) ∙ declared) refl h))
    command_made g of (Fresh x table values) st h = value_kept Made (values_of values st.scope) st _ (values_still values st.scope) (λ vs s still. table_kept Made (slice_get g.schema table.num) _ (λ d declared.
        drawn_made x.num d (record { table = table.num; key = drawn_key g.first st.effects }) vs _ (with_scope st s) (ap (λ y. slice_get y table.num) (sym of) ∙ declared) refl h))
    command_made g of (Update table key sets) st h = value_kept Made (values_of key st.scope) st _ (values_still key st.scope) (λ vs s still. table_kept Made (slice_get g.schema table.num) _ (λ d declared.
        present_kept Made (get st.tables (place_of_row table vs)) _ (λ row at present. updated_made d (place_of_row table vs) sets (with_scope st s) row h at present)))
    command_made g of (Remove table key) st h = value_kept Made (values_of key st.scope) st _ (values_still key st.scope) (λ vs s still.
        present_kept Made (get st.tables (place_of_row table vs)) _ (λ row at present. removed_made (place_of_row table vs) (with_scope st s) row h at))
    command_made g of (Abort n) st h = tt
    command_made g of (Reply e) st h = value_kept Made (value_of e st.scope) st _ (value_still e st.scope) (λ v s still. replied_made v (with_scope st s) h)

    block_made : (g : Setting) → g.schema ≡ schema → (b : Block) (st : Stand) → Made st → Kept Made (run_block g b st)
    block_made g of Finish st h = h
    block_made g of (Then c b) st h = then_kept Made Made (run_command g c st) (run_block g b) (command_made g of c st h) (block_made g of b)

pub runs_make_their_tables : RunsMakeTheirTables
runs_make_their_tables schema txns request first t = by (run_block g body (started request.args t)) (block_made schema t g refl body (started request.args t) (record { find = tt; leave = refl }))
  where
    body : Block
    body = body_of (slice_get txns request.txn)

    g : Setting
    g = record { schema = schema; arguments = request.args; first = first; loops = loop_variables body }

    by : (flow : Flow) → Kept (λ st. AreMadeOn schema t st.effects st.tables) flow → AreMadeOn schema t (result_of schema flow).effects (left_of t flow)
    by (Goes st) h = h
    by (Ends o) h = record { find = tt; leave = refl }
