-- Each change of a run belongs to an entry of the trace.
use Rattle.std.proofs.Common.{◌≡◌, ◌∙◌, ℕ, zero, suc, if◌then◌else◌, nat_lt, Bool, true, false, List, [], ◌∷◌, ◌++◌, length, map, filter, Option, Some, slice_get, refl, sym, ap, subst, arith, None}
use Rattle.std.specs.Prelude.{pos}
use Rattle.std.specs.FinMap.{get, insert}
use Rattle.std.specs.List.{All, Contains}
use Rattle.std.proofs.lemmas.List.{map-append}
use Rattle.std.proofs.lemmas.List.Elements.{All-nil, All-cons, Contains-append_left, Contains-append_right}
use Rattle.sv_value.specs.declared.values.Key.{Key}
use Rattle.sv_value.specs.declared.values.Val.{Val}
use Rattle.sv_app.specs.declared.acts.Act.{Act}
use Rattle.sv_app.specs.declared.acts.Act.TheVariants as acts
use Rattle.sv_app.specs.declared.apps.Ident.{Ident}
use Rattle.sv_app.specs.declared.gots.Got.{Got}
use Rattle.sv_app.specs.declared.instances.Instance.{Instance}
use Rattle.sv_app.specs.declared.places.Place.{Place}
use Rattle.sv_app.specs.declared.requests.Arg.{Arg}
use Rattle.sv_app.specs.declared.requests.Arg.TheVariants as args
use Rattle.sv_app.specs.declared.schemas.Ty.{Ty}
use Rattle.sv_app.specs.declared.schemas.Ty.TheVariants as types
use Rattle.sv_app.specs.Fitting.{ArgFits, ArgsFit}
use Rattle.sv_app.specs.Schema.{Declaration}
use Rattle.sv_app.specs.Statements.{inner_statements, block_statements}
use Rattle.sv_app.specs.Tables.{Row}
use Rattle.sv_app.specs.Trees.{Term, Command, Declare, Assign, Fetch, Choose, ForRows, ForEach, Insert, Fresh, Update, Remove, Abort, Reply, Block, Finish, Then, Transaction}
use Rattle.sv_app.specs.TxnConditions.{is_loop, KeepsStatement}
use Rattle.sv_app.specs.Units.{Loop, command_loops, block_loops, units, loop_variables, unit_of}
use Rattle.sv_app.proofs.AcceptedLaws.{all_at}
use Rattle.sv_effect.specs.declared.outcomes.Outcome.TheVariants as outcomes
use Rattle.sv_effect.specs.Run.{Setting, Stand, Flow, Goes, Ends, with_scope, on_value, only, meeting, present_keys, with_row, with_value, place_of_row, row_with, changed, updating, update_over, updated, inserted, replied, begun, closed, instance, instance_of, row_turn, item_turn, left_loop, items_of, run_command, run_block, result_of, RunResult, run_body, body_of, started, drawn, assigned, with_symbol}
use Rattle.sv_effect.specs.RunChanges.{Effect, key_in, with_writes, sets_made, inserts, kept_values, stands, drawn_key}
use Rattle.sv_effect.specs.RunValues.{Scope, value_of, values_of, truth_of}
use Rattle.sv_trace.specs.Entries.{command_changes, block_changes, IsOfUnit, HasEntry}
use Rattle.sv_trace.specs.Laws.{ChangesHaveEntries}
use Rattle.sv_trace.specs.Standing.{Frame, IsFrame}
use Rattle.sv_trace.proofs.FlowLaws.{Kept, then_kept, value_kept, truth_kept, present_kept, table_kept, keys_kept, if_present_kept, turns_kept}
use Rattle.sv_trace.proofs.KeepLaws.{Keep, each_of, keep_left, keep_right, keep_inner, no_length}
use Rattle.sv_trace.proofs.SlotLaws.{at_mapped}
use Rattle.sv_trace.proofs.OpeningLaws.{slice_left, loops_are_units}
use Rattle.sv_trace.proofs.StillLaws.{tag, value_still, values_still, truth_still, sets_still, inserts_still}
use Rattle.sv_trace.proofs.UnitLaws.{Each, each_left, each_right}

-- ---- lists

each_more : {A : Type 0} (P Q : A → Type 0) (xs : List A) → ((x : A) → P x → Q x) → Each P xs → Each Q xs
each_more P Q [] more each = tt
each_more P Q (x ∷ xs) more each = (more x each.0, each_more P Q xs more each.1)

each_push : {A : Type 0} (P : A → Type 0) (xs : List A) (x : A) → Each P xs → P x → Each P (xs ++ x ∷ [])
each_push P [] x each last = (last, tt)
each_push P (y ∷ ys) x each last = (each.0, each_push P ys x each.1 last)

all_of : {A : Type 0} (P : A → Type 0) (xs : List A) → Each P xs → All P xs
all_of P [] each = All-nil P
all_of P (x ∷ xs) each = All-cons P x xs each.0 (all_of P xs each.1)

at_end : {A B : Type 0} (f : A → B) (xs : List A) (b : B) → slice_get (map f xs ++ b ∷ []) (length xs) ≡ Some b
at_end f [] b = refl
at_end f (x ∷ xs) b = at_end f xs b

-- the units of the entries so far; in a loop with that of the turn that the run is in
abbrev entry_units : List Instance → List ℕ
entry_units instances = map (λ (i : Instance). i.unit) instances

abbrev units_so_far : Bool → ℕ → List Instance → List ℕ
units_so_far true u instances = 0 ∷ entry_units instances
units_so_far false u instances = 0 ∷ (entry_units instances ++ u ∷ [])

-- the number of the instance that the run is in
abbrev NumberIs : Bool → ℕ → List Instance → ℕ → Type 0
NumberIs true u instances n = (n ≡ 0) × (u ≡ 0)
NumberIs false u instances n = slice_get (units_so_far false u instances) n ≡ Some u

number_at : (outer : Bool) (u : ℕ) (instances : List Instance) (n : ℕ) → NumberIs outer u instances n → slice_get (units_so_far outer u instances) n ≡ Some u
number_at true u instances n is = ap (slice_get (units_so_far true u instances)) is.0 ∙ ap (λ v. Some v) (sym is.1)
number_at false u instances n is = is

module _ (txn : Transaction) where
  record IsIn (us : List ℕ) (e : Effect) : Type 0 where
    unit : ℕ
    at : slice_get us e.instance ≡ Some unit
    of : IsOfUnit txn unit e

  record Belongs (outer : Bool) (u : ℕ) (st : Stand) : Type 0 where
    unit : st.scope.progress.unit ≡ u
    number : NumberIs outer u st.instances st.scope.progress.number
    effects : Each (IsIn (units_so_far outer u st.instances)) st.effects

  -- statements of a unit
  record Within (u : ℕ) (changes : List (ℕ × Act)) : Type 0 where
    body : Block
    at : slice_get (units txn.body) u ≡ Some body
    all : (x : ℕ × Act) → Contains changes x → Contains (block_changes body) x

  within_left : (u : ℕ) (xs ys : List (ℕ × Act)) → Within u (xs ++ ys) → Within u xs
  within_left u xs ys w = record { body = w.body; at = w.at; all = λ x h. w.all x (Contains-append_left xs ys x h) }

  within_right : (u : ℕ) (xs ys : List (ℕ × Act)) → Within u (xs ++ ys) → Within u ys
  within_right u xs ys w = record { body = w.body; at = w.at; all = λ x h. w.all x (Contains-append_right xs ys x h) }

  makes : (u table : ℕ) (act : Act) (e : Effect) → Within u ((table, act) ∷ []) → e.place.table ≡ table → e.act ≡ act → IsOfUnit txn u e
  makes u table act e w at is = record {
    body = w.body;
    at = w.at;
    makes = subst (λ (x : ℕ × Act). Contains (block_changes w.body) x) (λ i. (sym at i, sym is i)) (w.all (table, act) (0, omega arith, refl));
  }

  moved : (outer : Bool) (u : ℕ) (st : Stand) (s : Scope) → tag s ≡ tag st.scope → Belongs outer u st → Belongs outer u (with_scope st s)
  moved outer u st s still h = record {
    unit = ap (λ p. p.1) still ∙ h.unit;
    number = subst (NumberIs outer u st.instances) (sym (ap (λ p. p.0) still)) h.number;
    effects = h.effects;
  }

  changed_in : (outer : Bool) (u : ℕ) (e : Effect) (row : Row) (st : Stand) → Belongs outer u st → e.instance ≡ st.scope.progress.number → IsOfUnit txn u e → Kept (Belongs outer u) (changed e row st)
  changed_in outer u e row st h own of = by (nat_lt (length st.effects) 64)
    where
      by : (b : Bool) → Kept (Belongs outer u) (if b then Goes (record st { tables = insert st.tables e.place row; effects = st.effects ++ e ∷ [] }) else Ends outcomes.TooLarge)
      by false = tt
      by true = record {
        unit = h.unit;
        number = h.number;
        effects = each_push (IsIn (units_so_far outer u st.instances)) st.effects e h.effects (record {
          unit = u;
          at = ap (slice_get (units_so_far outer u st.instances)) own ∙ number_at outer u st.instances st.scope.progress.number h.number;
          of = of;
        });
      }

  updated_in : (outer : Bool) (u : ℕ) (d : Declaration) (p : Place) (sets : List (Ident × Term)) (st : Stand) (row : Row) → Belongs outer u st → Within u ((p.table, acts.Update) ∷ []) → Kept (Belongs outer u) (updated d p sets st row)
  updated_in outer u d p sets st row h w = value_kept (Belongs outer u) (sets_made d.columns sets (updating row.values st.scope)) st _ (sets_still d.columns sets (updating row.values st.scope)) (λ ws s still.
      let end : Stand = update_over (with_scope st s) in
      let held = moved outer u st s still h in
      changed_in outer u _ _ end (record { unit = held.unit; number = held.number; effects = held.effects }) refl (makes u p.table acts.Update _ w refl refl))

  inserted_in : (outer : Bool) (u : ℕ) (d : Declaration) (p : Place) (vs : List Val) (o : Option Row) (st : Stand) → Belongs outer u st → Within u ((p.table, acts.Insert) ∷ []) → Kept (Belongs outer u) (inserted d p vs o st)
  inserted_in outer u d p vs o st h w = by (stands o)
    where
      kept : List Got
      kept = kept_values d p.key o

      by : (b : Bool) → Kept (Belongs outer u) (if b then Ends outcomes.Exists else on_value (inserts d vs kept 0 d.columns st.scope) st (λ writes z.
          changed (record { place = p; act = acts.Insert; writes = writes; instance = z.scope.progress.number }) (row_with (with_writes writes kept) true) z))
      by true = tt
      by false = value_kept (Belongs outer u) (inserts d vs kept 0 d.columns st.scope) st _ (inserts_still d vs kept 0 d.columns st.scope) (λ ws s still.
          changed_in outer u _ _ (with_scope st s) (moved outer u st s still h) refl (makes u p.table acts.Insert _ w refl refl))

  drawn_in : (outer : Bool) (u x : ℕ) (d : Declaration) (p : Place) (vs : List Val) (o : Option Row) (st : Stand) → Belongs outer u st → Within u ((p.table, acts.Fresh) ∷ []) → Kept (Belongs outer u) (drawn x d p vs o st)
  drawn_in outer u x d p vs (Some row) st h w = tt
  drawn_in outer u x d p vs None st h w =
      changed_in outer u _ _ (assigned x p.key.first (with_symbol p.key.first st)) (record { unit = h.unit; number = h.number; effects = h.effects }) refl (makes u p.table acts.Fresh _ w refl refl)

  replied_in : (outer : Bool) (u : ℕ) (v : Val) (st : Stand) → Belongs outer u st → Kept (Belongs outer u) (replied v st)
  replied_in outer u v st h = by (nat_lt (length st.replies) 16)
    where
      by : (b : Bool) → Kept (Belongs outer u) (if b then Goes (record st { replies = st.replies ++ v ∷ [] }) else Ends outcomes.TooLarge)
      by true = record { unit = h.unit; number = h.number; effects = h.effects }
      by false = tt

  -- a turn: the entry that it appends has the number of its changes
  turn_in : (u v : ℕ) (body : Stand → Flow) → ((z : Stand) → Belongs false v z → Kept (Belongs false v) (body z)) → (st : Stand) → Belongs true u st → Kept (Belongs true u) (instance v body st)
  turn_in u v body each st h = then_kept (Belongs false v) (Belongs true u) (body (begun v st)) (λ z. Goes (closed st.scope.progress z)) (each (begun v st) begins) closes
    where
      begins : Belongs false v (begun v st)
      begins = record {
        unit = refl;
        number = at_end (λ (i : Instance). i.unit) st.instances v;
        effects = each_more (IsIn (units_so_far true u st.instances)) (IsIn (units_so_far false v st.instances)) st.effects
            (λ e is. record { unit = is.unit; at = slice_left (0 ∷ entry_units st.instances) (v ∷ []) e.instance is.unit is.at; of = is.of }) h.effects;
      }

      closes : (z : Stand) → Belongs false v z → Belongs true u (closed st.scope.progress z)
      closes z hz =
          let all : (entry_units z.instances ++ v ∷ []) ≡ entry_units (z.instances ++ instance_of z.scope.progress ∷ []) =
          (λ i. entry_units z.instances ++ sym hz.unit i ∷ []) ∙ sym (map-append (λ (i : Instance). i.unit) z.instances (instance_of z.scope.progress ∷ [])) in
          record { unit = h.unit; number = h.number; effects = subst (λ us. Each (IsIn (0 ∷ us)) z.effects) all hz.effects }

  row_turn_in : (u v r table : ℕ) (body : Stand → Flow) → ((z : Stand) → Belongs false v z → Kept (Belongs false v) (body z)) → (k : Key) (st : Stand) → Belongs true u st → Kept (Belongs true u) (row_turn v r table body k st)
  row_turn_in u v r table body each k st h = if_present_kept (Belongs true u) (get st.tables (record { table = table; key = k })) _ st h (λ row.
      turn_in u v (λ z. body (with_scope z (with_row r row.values z.scope))) (λ z hz. each (with_scope z (with_row r row.values z.scope)) (moved false v z (with_row r row.values z.scope) refl hz)) st h)

  item_turn_in : (u v x : ℕ) (body : Stand → Flow) → ((z : Stand) → Belongs false v z → Kept (Belongs false v) (body z)) → (val : Val) (st : Stand) → Belongs true u st → Kept (Belongs true u) (item_turn v x body val st)
  item_turn_in u v x body each val st h = turn_in u v (λ z. body (with_scope z (with_value x val z.scope))) (λ z hz. each (with_scope z (with_value x val z.scope)) (moved false v z (with_value x val z.scope) refl hz)) st h

  abbrev LoopIs : Loop → Type 0
  LoopIs l = slice_get (units txn.body) (unit_of (loop_variables txn.body) l.variable) ≡ Some l.body

  module _ (g : Setting) (of : g.loops ≡ loop_variables txn.body) where
    loop_unit : (x : ℕ) (body : Block) → LoopIs (record { variable = x; body = body }) → Within (unit_of g.loops x) (block_changes body)
    loop_unit x body is = record { body = body; at = ap (λ ls. slice_get (units txn.body) (unit_of ls x)) of ∙ is; all = λ y h. h }

    left_in : (outer : Bool) (u : ℕ) (body : Block) (z : Stand) → Belongs outer u z → Kept (Belongs outer u) (left_loop body z)
    left_in outer u body z h = record { unit = h.unit; number = h.number; effects = h.effects }

    mutual
      command_in : (outer : Bool) (u : ℕ) (c : Command) → Keep outer (c ∷ inner_statements c) → Each LoopIs (command_loops c) → Within u (command_changes c) → (st : Stand) → Belongs outer u st → Kept (Belongs outer u) (run_command g c st)
      command_in outer u (Declare x e) keep loops w st h = value_kept (Belongs outer u) (value_of e st.scope) st _ (value_still e st.scope) (λ v s still. let m = moved outer u st s still h in record { unit = m.unit; number = m.number; effects = m.effects })
      command_in outer u (Assign x e) keep loops w st h = value_kept (Belongs outer u) (value_of e st.scope) st _ (value_still e st.scope) (λ v s still. let m = moved outer u st s still h in record { unit = m.unit; number = m.number; effects = m.effects })
      command_in outer u (Fetch r table key) keep loops w st h = value_kept (Belongs outer u) (values_of key st.scope) st _ (values_still key st.scope) (λ vs s still.
          let m = moved outer u st s still h in present_kept (Belongs outer u) (get st.tables (place_of_row table vs)) _ (λ row at present. record { unit = m.unit; number = m.number; effects = m.effects }))
      command_in outer u (Choose test ys ns) keep loops w st h =
          let inside = keep_inner outer (Choose test ys ns) keep in
          truth_kept (Belongs outer u) (truth_of test st.scope) st (run_block g ys) (run_block g ns) (truth_still test st.scope)
          (λ s still. block_in outer u ys (keep_left outer (block_statements ys) (block_statements ns) inside) (each_left LoopIs (block_loops ys) (block_loops ns) loops) (within_left u (block_changes ys) (block_changes ns) w) (with_scope st s) (moved outer u st s still h))
          (λ s still. block_in outer u ns (keep_right outer (block_statements ys) (block_statements ns) inside) (each_right LoopIs (block_loops ys) (block_loops ns) loops) (within_right u (block_changes ys) (block_changes ns) w) (with_scope st s) (moved outer u st s still h))
      command_in true u (ForRows r table test body) keep loops w st h = keys_kept (Belongs true u) (only (meeting r.num table.num test st.tables (present_keys st.tables table.num) st.scope)) _ (λ ks.
          then_kept (Belongs true u) (Belongs true u) _ (left_loop body)
          (turns_kept (Belongs true u) ks (row_turn (unit_of g.loops r.num) r.num table.num (run_block g body))
          (row_turn_in u (unit_of g.loops r.num) r.num table.num (run_block g body)
          (block_in false (unit_of g.loops r.num) body (no_length (filter is_loop (block_statements body)) keep.0) loops.1 (loop_unit r.num body loops.0))) st h) (left_in true u body))
      command_in false u (ForRows r table test body) keep loops w st h = absurd cc
      command_in true u (ForEach x list body) keep loops w st h = then_kept (Belongs true u) (Belongs true u) _ (left_loop body)
          (turns_kept (Belongs true u) (items_of (slice_get g.arguments list.num)) (item_turn (unit_of g.loops x.num) x.num (run_block g body))
          (item_turn_in u (unit_of g.loops x.num) x.num (run_block g body)
          (block_in false (unit_of g.loops x.num) body (no_length (filter is_loop (block_statements body)) keep.0) loops.1 (loop_unit x.num body loops.0))) st h) (left_in true u body)
      command_in false u (ForEach x list body) keep loops w st h = absurd cc
      command_in outer u (Insert table values) keep loops w st h = value_kept (Belongs outer u) (values_of values st.scope) st _ (values_still values st.scope) (λ vs s still. table_kept (Belongs outer u) (slice_get g.schema table.num) _ (λ d declared.
          inserted_in outer u d (record { table = table.num; key = key_in d.key vs }) vs (get st.tables (record { table = table.num; key = key_in d.key vs })) (with_scope st s) (moved outer u st s still h) w))
      command_in outer u (Fresh x table values) keep loops w st h = value_kept (Belongs outer u) (values_of values st.scope) st _ (values_still values st.scope) (λ vs s still. table_kept (Belongs outer u) (slice_get g.schema table.num) _ (λ d declared.
          let p : Place = record { table = table.num; key = drawn_key g.first st.effects } in drawn_in outer u x.num d p vs (get st.tables p) (with_scope st s) (moved outer u st s still h) w))
      command_in outer u (Update table key sets) keep loops w st h = value_kept (Belongs outer u) (values_of key st.scope) st _ (values_still key st.scope) (λ vs s still. table_kept (Belongs outer u) (slice_get g.schema table.num) _ (λ d declared.
          present_kept (Belongs outer u) (get st.tables (place_of_row table vs)) _ (λ row at present. updated_in outer u d (place_of_row table vs) sets (with_scope st s) row (moved outer u st s still h) w)))
      command_in outer u (Remove table key) keep loops w st h = value_kept (Belongs outer u) (values_of key st.scope) st _ (values_still key st.scope) (λ vs s still.
          present_kept (Belongs outer u) (get st.tables (place_of_row table vs)) _ (λ row at present. changed_in outer u _ _ (with_scope st s) (moved outer u st s still h) refl (makes u table.num acts.Remove _ w refl refl)))
      command_in outer u (Abort n) keep loops w st h = tt
      command_in outer u (Reply e) keep loops w st h = value_kept (Belongs outer u) (value_of e st.scope) st _ (value_still e st.scope) (λ v s still. replied_in outer u v (with_scope st s) (moved outer u st s still h))

      block_in : (outer : Bool) (u : ℕ) (b : Block) → Keep outer (block_statements b) → Each LoopIs (block_loops b) → Within u (block_changes b) → (st : Stand) → Belongs outer u st → Kept (Belongs outer u) (run_block g b st)
      block_in outer u Finish keep loops w st h = h
      block_in outer u (Then c b) keep loops w st h = then_kept (Belongs outer u) (Belongs outer u) (run_command g c st) (run_block g b)
          (command_in outer u c (keep_left outer (c ∷ inner_statements c) (block_statements b) keep) (each_left LoopIs (command_loops c) (block_loops b) loops) (within_left u (command_changes c) (block_changes b) w) st h)
          (block_in outer u b (keep_right outer (c ∷ inner_statements c) (block_statements b) keep) (each_right LoopIs (command_loops c) (block_loops b) loops) (within_right u (command_changes c) (block_changes b) w))

  -- at the end the entry of the body is the first
  has_entry : (st : Stand) (e : Effect) → Belongs true 0 st → IsIn (units_so_far true 0 st.instances) e → HasEntry txn (instance_of st.scope.progress ∷ st.instances) e
  has_entry st e h is =
      let units_are : units_so_far true 0 st.instances ≡ map (λ (i : Instance). i.unit) (instance_of st.scope.progress ∷ st.instances) = λ i. sym h.unit i ∷ entry_units st.instances in
      let found = at_mapped (λ (i : Instance). i.unit) (instance_of st.scope.progress ∷ st.instances) e.instance is.unit (ap (λ us. slice_get us e.instance) (sym units_are) ∙ is.at) in
      record { entry = found.0; at = found.1; unit = subst (λ u. IsOfUnit txn u e) (sym found.2) is.of }

-- arguments that fit, whatever they are
abbrev some_arg : Ty → Arg
some_arg types.Int = args.Int (pos 0)
some_arg types.Text = args.Text []
some_arg types.Ints = args.Ints []

arg_fits : (ty : Ty) → ArgFits ty (some_arg ty)
arg_fits types.Int = tt
arg_fits types.Text = tt
arg_fits types.Ints = tt

abbrev some_args : List (Ident × Ty) → List Arg
some_args [] = []
some_args (p ∷ ps) = some_arg p.1 ∷ some_args ps

args_fit : (params : List (Ident × Ty)) → ArgsFit params (some_args params)
args_fit [] = tt
args_fit (p ∷ ps) = (arg_fits p.1, args_fit ps)

pub changes_have_entries : ChangesHaveEntries
changes_have_entries schema txns request txn first t accepted among =
    subst (λ o. Entries (run_body schema (body_of o) request.args first t)) (sym among) (by (run_block g txn.body (started request.args t)) (block_in txn g refl true 0 txn.body statements (loops_are_units f frame) within (started request.args t) begins))
  where
    Entries : RunResult → Type 0
    Entries ran = All (HasEntry txn ran.trace) ran.effects

    f : Frame
    f = record { schema = schema; txns = txns; number = request.txn; txn = txn; args = some_args txn.params; first = first }

    frame : IsFrame f
    frame = record { accepted = accepted; among = among; fits = args_fit txn.params }

    g : Setting
    g = record { schema = schema; arguments = request.args; first = first; loops = loop_variables txn.body }

    statements : Each KeepsStatement (block_statements txn.body)
    statements = each_of KeepsStatement (block_statements txn.body) (all_at (λ (x : Transaction). All KeepsStatement (block_statements x.body)) txns request.txn txn accepted.grammar among)

    within : Within txn 0 (block_changes txn.body)
    within = record { body = txn.body; at = refl; all = λ x h. h }

    begins : Belongs txn true 0 (started request.args t)
    begins = record { unit = refl; number = (refl, refl); effects = tt }

    by : (flow : Flow) → Kept (Belongs txn true 0) flow → Entries (result_of schema flow)
    by (Goes st) h =
        let trace : List Instance = instance_of st.scope.progress ∷ st.instances in
        all_of (HasEntry txn trace) st.effects (each_more (IsIn txn (units_so_far true 0 st.instances)) (HasEntry txn trace) st.effects (λ e is. has_entry txn st e h is) h.effects)
    by (Ends o) h = All-nil (HasEntry txn [])
