-- The keys that a run draws are numbered from the first, in the order of its changes.
use Rattle.std.proofs.Common.{◌≡◌, ◌∙◌, ℕ, zero, suc, ◌+◌, ◌<◌, ◌≤◌, nat_lt, if◌then◌else◌, Bool, true, false, List, [], ◌∷◌, ◌++◌, length, Option, Some, None, slice_get, refl, sym, ap, arith}
use Rattle.std.specs.Prelude.{ℤ, pos, ◌+ℤ◌}
use Rattle.std.specs.FinMap.{get, insert}
use Rattle.std.proofs.lemmas.Bool.Decides.{nat_tests}
use Rattle.std.proofs.lemmas.Int.{ints}
use Rattle.std.proofs.lemmas.List.{length-append}
use Rattle.sv_value.specs.declared.values.Key.{Key}
use Rattle.sv_value.specs.declared.values.Val.{Val}
use Rattle.sv_value.specs.declared.values.Val.TheVariants.{Int}
use Rattle.sv_app.specs.declared.acts.Act.{Act}
use Rattle.sv_app.specs.declared.acts.Act.TheVariants as acts
use Rattle.sv_app.specs.declared.apps.Ident.{Ident}
use Rattle.sv_app.specs.declared.gots.Got.{Got}
use Rattle.sv_app.specs.declared.places.Place.{Place}
use Rattle.sv_app.specs.Fitting.{number_in}
use Rattle.sv_app.specs.Schema.{Declaration}
use Rattle.sv_app.specs.Tables.{Row}
use Rattle.sv_app.specs.Trees.{Term, Command, Declare, Assign, Fetch, Choose, ForRows, ForEach, Insert, Fresh, Update, Remove, Abort, Reply, Block, Finish, Then}
use Rattle.sv_app.specs.Units.{unit_of, loop_variables}
use Rattle.sv_effect.specs.declared.outcomes.Outcome.TheVariants as outcomes
use Rattle.sv_effect.specs.Acts.{is_draw}
use Rattle.sv_effect.specs.Run.{Setting, Stand, Flow, Goes, Ends, with_scope, on_value, only, meeting, present_keys, with_row, with_value, place_of_row, row_with, changed, updating, update_over, updated, inserted, assigned, with_symbol, drawn, removed, replied, begun, closed, instance, row_turn, item_turn, left_loop, items_of, run_command, run_block, result_of, body_of, started}
use Rattle.sv_effect.specs.RunChanges.{Effect, key_in, with_writes, sets_made, inserts, kept_values, stands, draws, drawn_key}
use Rattle.sv_effect.specs.RunValues.{value_of, values_of, truth_of}
use Rattle.sv_trace.proofs.FlowLaws.{Kept, then_kept, value_kept, truth_kept, present_kept, table_kept, keys_kept, if_present_kept, turns_kept}
use Rattle.sv_trace.proofs.StillLaws.{value_still, values_still, truth_still, sets_still, inserts_still}
use Rattle.sv_safety.specs.Runs.{DrawsFrom, RunsDraw}

-- ---- numbered draws

abbrev key_at : ℤ → ℕ → Key
key_at first n = record { first = Int (first +ℤ pos n); second = None }

abbrev drew : Act → ℕ
drew act = if is_draw act then 1 else 0

abbrev Numbered : ℤ → ℕ → List Effect → Type 0
Numbered first n [] = Unit {0}
Numbered first n (e ∷ es) = (is_draw e.act ≡ true → e.place.key ≡ key_at first n) × Numbered first (n + drew e.act) es

add_assoc : (a b c : ℕ) → (a + (b + c)) ≡ (a + b + c)
add_assoc a b c = omega arith

none_add : (a : ℕ) → a ≡ (0 + a)
none_add a = omega arith

add_none : (a : ℕ) → (a + 0) ≡ a
add_none a = omega arith

numbered_more : (first : ℤ) (n : ℕ) (es : List Effect) (x : Effect) → Numbered first n es → (is_draw x.act ≡ true → x.place.key ≡ key_at first (n + draws es)) → Numbered first n (es ++ x ∷ [])
numbered_more first n [] x h here = ((λ d. here d ∙ ap (key_at first) (add_none n)), tt)
numbered_more first n (e ∷ es) x h here = (h.0, numbered_more first (n + drew e.act) es x h.1 (λ d. here d ∙ ap (key_at first) (add_assoc n (drew e.act) (draws es))))

-- the key has a number of these
record IsNumber (first : ℤ) (key : Key) (least most : ℕ) : Type 0 where
  number : ℕ
  from : least ≤ number
  below : number < most
  is : key ≡ key_at first number

one_drawn : (act : Act) → is_draw act ≡ true → drew act ≡ 1
one_drawn act d = ap (λ b. if b then 1 else 0) d

number_of : (first : ℤ) (n : ℕ) (es : List Effect) → Numbered first n es → (k : ℕ) (e : Effect) → slice_get es k ≡ Some e → is_draw e.act ≡ true → IsNumber first e.place.key n (n + draws es)
number_of first n [] h k e at drawn = absurd cc
number_of first n (x ∷ es) h zero e at drawn =
    let same : x ≡ e = cc in
    let one : drew x.act ≡ 1 = one_drawn x.act (ap (λ (y : Effect). is_draw y.act) same ∙ drawn) in
    record {
      number = n;
      from = omega arith;
      below = omega (arith, one);
      is = ap (λ (y : Effect). y.place.key) (sym same) ∙ h.0 (ap (λ (y : Effect). is_draw y.act) same ∙ drawn);
    }
number_of first n (x ∷ es) h (suc k) e at drawn =
    let later : IsNumber first e.place.key (n + drew x.act) (n + drew x.act + draws es) = number_of first (n + drew x.act) es h.1 k e at drawn in
    let from : n + drew x.act ≤ later.number = later.from in
    let below : later.number < n + drew x.act + draws es = later.below in
    record { number = later.number; from = omega (arith, from); below = omega (arith, below); is = later.is }

same_number : (first : ℤ) (m n : ℕ) → key_at first m ≡ key_at first n → m ≡ n
same_number first m n same = let sums : (first +ℤ pos m) ≡ (first +ℤ pos n) = ap (λ (k : Key). number_in k.first) same in omega (arith, ints, sums)

-- the first change draws another key than a later one
first_apart : (first : ℤ) (n : ℕ) (d : Effect) (es : List Effect) → Numbered first n (d ∷ es) → (k : ℕ) (e : Effect) → slice_get es k ≡ Some e → is_draw d.act ≡ true → is_draw e.act ≡ true
    → d.place.key ≡ e.place.key → ⊥
first_apart first n d es h k e at d_drawn e_drawn same =
    let one : drew d.act ≡ 1 = one_drawn d.act d_drawn in
    let later : IsNumber first e.place.key (n + drew d.act) (n + drew d.act + draws es) = number_of first (n + drew d.act) es h.1 k e at e_drawn in
    let from : n + drew d.act ≤ later.number = later.from in
    let both : n ≡ later.number = same_number first n later.number (sym (h.0 d_drawn) ∙ same ∙ later.is) in
    omega (arith, one, from, both)

all_apart : (first : ℤ) (n : ℕ) (es : List Effect) → Numbered first n es → (a b : ℕ) (d e : Effect) → slice_get es a ≡ Some d → slice_get es b ≡ Some e → is_draw d.act ≡ true → is_draw e.act ≡ true
    → d.place.key ≡ e.place.key → a ≡ b
all_apart first n [] h a b d e at_a at_b x y same = absurd cc
all_apart first n (z ∷ es) h zero zero d e at_a at_b x y same = refl
all_apart first n (z ∷ es) h zero (suc b) d e at_a at_b x y same =
    let here : z ≡ d = cc in
    absurd (first_apart first n z es h b e at_b (ap (λ (w : Effect). is_draw w.act) here ∙ x) y (ap (λ (w : Effect). w.place.key) here ∙ same))
all_apart first n (z ∷ es) h (suc a) zero d e at_a at_b x y same =
    let here : z ≡ e = cc in
    absurd (first_apart first n z es h a d at_a (ap (λ (w : Effect). is_draw w.act) here ∙ y) x (ap (λ (w : Effect). w.place.key) here ∙ sym same))
all_apart first n (z ∷ es) h (suc a) (suc b) d e at_a at_b x y same = ap suc (all_apart first (n + drew z.act) es h.1 a b d e at_a at_b x y same)

drew_most : (act : Act) → drew act ≤ 1
drew_most acts.Insert = omega arith
drew_most acts.Fresh = omega arith
drew_most acts.Update = omega arith
drew_most acts.Remove = omega arith

draws_most : (es : List Effect) → draws es ≤ length es
draws_most [] = omega arith
draws_most (e ∷ es) = let one : drew e.act ≤ 1 = drew_most e.act in let rest : draws es ≤ length es = draws_most es in omega (arith, one, rest)

-- ---- the keys of a run

-- its draws are numbered, and it makes few changes
record AreNumbered (first : ℤ) (es : List Effect) : Type 0 where
  numbered : Numbered first 0 es
  few : length es ≤ 64

module _ (first : ℤ) where
  -- so it is wherever a run stands
  abbrev Drew : Stand → Type 0
  Drew st = AreNumbered first st.effects

  changed_drew : (e : Effect) (row : Row) (st : Stand) → Drew st → (is_draw e.act ≡ true → e.place.key ≡ drawn_key first st.effects) → Kept Drew (changed e row st)
  changed_drew e row st h here = by (nat_lt (length st.effects) 64) refl
    where
      by : (b : Bool) → nat_lt (length st.effects) 64 ≡ b → Kept Drew (if b then Goes (record st { tables = insert st.tables e.place row; effects = st.effects ++ e ∷ [] }) else Ends outcomes.TooLarge)
      by false more = tt
      by true less =
          let below : length st.effects < 64 = grind (arith, nat_tests, less) in
          record { numbered = numbered_more first 0 st.effects e h.numbered (λ d. here d ∙ ap (key_at first) (none_add (draws st.effects))); few = omega (arith, below, length-append st.effects (e ∷ [])) }

  updated_drew : (d : Declaration) (p : Place) (sets : List (Ident × Term)) (st : Stand) (row : Row) → Drew st → Kept Drew (updated d p sets st row)
  updated_drew d p sets st row h = value_kept Drew (sets_made d.columns sets (updating row.values st.scope)) st _ (sets_still d.columns sets (updating row.values st.scope)) (λ ws s still.
      changed_drew _ _ (update_over (with_scope st s)) h (λ none_drawn. absurd cc))

  removed_drew : (p : Place) (st : Stand) (row : Row) → Drew st → Kept Drew (removed p st row)
  removed_drew p st row h = changed_drew _ _ st h (λ none_drawn. absurd cc)

  inserted_drew : (d : Declaration) (p : Place) (vs : List Val) (o : Option Row) (st : Stand) → Drew st → Kept Drew (inserted d p vs o st)
  inserted_drew d p vs o st h = by (stands o)
    where
      kept : List Got
      kept = kept_values d p.key o

      by : (b : Bool) → Kept Drew (if b then Ends outcomes.Exists else on_value (inserts d vs kept 0 d.columns st.scope) st (λ writes z.
          changed (record { place = p; act = acts.Insert; writes = writes; instance = z.scope.progress.number }) (row_with (with_writes writes kept) true) z))
      by true = tt
      by false = value_kept Drew (inserts d vs kept 0 d.columns st.scope) st _ (inserts_still d vs kept 0 d.columns st.scope) (λ ws s still. changed_drew _ _ (with_scope st s) h (λ none_drawn. absurd cc))

  drawn_drew : (x : ℕ) (d : Declaration) (p : Place) (vs : List Val) (o : Option Row) (st : Stand) → p.key ≡ drawn_key first st.effects → Drew st → Kept Drew (drawn x d p vs o st)
  drawn_drew x d p vs (Some row) st is h = tt
  drawn_drew x d p vs None st is h = changed_drew _ _ (assigned x p.key.first (with_symbol p.key.first st)) h (λ drawn. is)

  replied_drew : (v : Val) (st : Stand) → Drew st → Kept Drew (replied v st)
  replied_drew v st h = by (nat_lt (length st.replies) 16)
    where
      by : (b : Bool) → Kept Drew (if b then Goes (record st { replies = st.replies ++ v ∷ [] }) else Ends outcomes.TooLarge)
      by true = h
      by false = tt

  instance_drew : (unit : ℕ) (body : Stand → Flow) → ((z : Stand) → Drew z → Kept Drew (body z)) → (st : Stand) → Drew st → Kept Drew (instance unit body st)
  instance_drew unit body each st h = then_kept Drew Drew (body (begun unit st)) (λ z. Goes (closed st.scope.progress z)) (each (begun unit st) h) (λ z hz. hz)

  row_turn_drew : (unit r table : ℕ) (body : Stand → Flow) → ((z : Stand) → Drew z → Kept Drew (body z)) → (k : Key) (st : Stand) → Drew st → Kept Drew (row_turn unit r table body k st)
  row_turn_drew unit r table body each k st h = if_present_kept Drew (get st.tables (record { table = table; key = k })) _ st h (λ row.
      instance_drew unit (λ z. body (with_scope z (with_row r row.values z.scope))) (λ z hz. each (with_scope z (with_row r row.values z.scope)) hz) st h)

  item_turn_drew : (unit x : ℕ) (body : Stand → Flow) → ((z : Stand) → Drew z → Kept Drew (body z)) → (v : Val) (st : Stand) → Drew st → Kept Drew (item_turn unit x body v st)
  item_turn_drew unit x body each v st h = instance_drew unit (λ z. body (with_scope z (with_value x v z.scope))) (λ z hz. each (with_scope z (with_value x v z.scope)) hz) st h

  mutual
    command_drew : (g : Setting) → g.first ≡ first → (c : Command) (st : Stand) → Drew st → Kept Drew (run_command g c st)
    command_drew g of (Declare x e) st h = value_kept Drew (value_of e st.scope) st _ (value_still e st.scope) (λ v s still. h)
    command_drew g of (Assign x e) st h = value_kept Drew (value_of e st.scope) st _ (value_still e st.scope) (λ v s still. h)
    command_drew g of (Fetch r table key) st h = value_kept Drew (values_of key st.scope) st _ (values_still key st.scope) (λ vs s still. present_kept Drew (get st.tables (place_of_row table vs)) _ (λ row at present. h))
    command_drew g of (Choose test ys ns) st h = truth_kept Drew (truth_of test st.scope) st (run_block g ys) (run_block g ns) (truth_still test st.scope)
        (λ s still. block_drew g of ys (with_scope st s) h) (λ s still. block_drew g of ns (with_scope st s) h)
    command_drew g of (ForRows r table test body) st h = keys_kept Drew (only (meeting r.num table.num test st.tables (present_keys st.tables table.num) st.scope)) _ (λ ks.
        then_kept Drew Drew _ (left_loop body)
        (turns_kept Drew ks (row_turn (unit_of g.loops r.num) r.num table.num (run_block g body)) (row_turn_drew (unit_of g.loops r.num) r.num table.num (run_block g body) (block_drew g of body)) st h) (λ z hz. hz))
    command_drew g of (ForEach x list body) st h = then_kept Drew Drew _ (left_loop body)
        (turns_kept Drew (items_of (slice_get g.arguments list.num)) (item_turn (unit_of g.loops x.num) x.num (run_block g body)) (item_turn_drew (unit_of g.loops x.num) x.num (run_block g body) (block_drew g of body)) st h) (λ z hz. hz)
    command_drew g of (Insert table values) st h = value_kept Drew (values_of values st.scope) st _ (values_still values st.scope) (λ vs s still. table_kept Drew (slice_get g.schema table.num) _ (λ d declared.
        inserted_drew d (record { table = table.num; key = key_in d.key vs }) vs (get st.tables (record { table = table.num; key = key_in d.key vs })) (with_scope st s) h))
    command_drew g of (Fresh x table values) st h = value_kept Drew (values_of values st.scope) st _ (values_still values st.scope) (λ vs s still. table_kept Drew (slice_get g.schema table.num) _ (λ d declared.
        drawn_drew x.num d (record { table = table.num; key = drawn_key g.first st.effects }) vs (get st.tables (record { table = table.num; key = drawn_key g.first st.effects })) (with_scope st s) (ap (λ n. drawn_key n st.effects) of) h))
    command_drew g of (Update table key sets) st h = value_kept Drew (values_of key st.scope) st _ (values_still key st.scope) (λ vs s still. table_kept Drew (slice_get g.schema table.num) _ (λ d declared.
        present_kept Drew (get st.tables (place_of_row table vs)) _ (λ row at present. updated_drew d (place_of_row table vs) sets (with_scope st s) row h)))
    command_drew g of (Remove table key) st h = value_kept Drew (values_of key st.scope) st _ (values_still key st.scope) (λ vs s still.
        present_kept Drew (get st.tables (place_of_row table vs)) _ (λ row at present. removed_drew (place_of_row table vs) (with_scope st s) row h))
    command_drew g of (Abort n) st h = tt
    command_drew g of (Reply e) st h = value_kept Drew (value_of e st.scope) st _ (value_still e st.scope) (λ v s still. replied_drew v (with_scope st s) h)

    block_drew : (g : Setting) → g.first ≡ first → (b : Block) (st : Stand) → Drew st → Kept Drew (run_block g b st)
    block_drew g of Finish st h = h
    block_drew g of (Then c b) st h = then_kept Drew Drew (run_command g c st) (run_block g b) (command_drew g of c st h) (block_drew g of b)

pub runs_draw : RunsDraw
runs_draw schema txns request first t = by (run_block g body (started request.args t)) (block_drew first g refl body (started request.args t) (record { numbered = tt; few = omega arith }))
  where
    body : Block
    body = body_of (slice_get txns request.txn)

    g : Setting
    g = record { schema = schema; arguments = request.args; first = first; loops = loop_variables body }

    draw : (es : List Effect) → AreNumbered first es → DrawsFrom first es
    draw es h = record {
      keys = λ k e at drawn.
          let n : IsNumber first e.place.key 0 (0 + draws es) = number_of first 0 es h.numbered k e at drawn in
          let below : n.number < 0 + draws es = n.below in
          record { number = n.number; few = omega (arith, below, draws_most es, h.few); is = n.is };
      apart = λ a b d e at_a at_b x y same. all_apart first 0 es h.numbered a b d e at_a at_b x y same;
    }

    by : (flow : Flow) → Kept (λ st. AreNumbered first st.effects) flow → DrawsFrom first (result_of schema flow).effects
    by (Goes st) h = draw st.effects h
    by (Ends o) h = draw [] (record { numbered = tt; few = omega arith })
