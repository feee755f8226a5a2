-- Turns of loops: each is an instance that goes along a route of its unit, and leaves the instance outside where it stood.
use Rattle.std.proofs.Common.{◌≡◌, ◌⊎◌, inl, inr, ℕ, zero, suc, ◌<◌, ◌≤◌, ◌==◌, ◌||◌, not, if◌then◌else◌, Bool, true, false, List, [], ◌∷◌, ◌++◌, length, map, Option, Some, None, slice_get, refl, sym, ap, subst, ◌∙◌, append-nil, arith}
use Rattle.std.specs.List.{list_any}
use Rattle.std.specs.FinMap.{get}
use Rattle.std.proofs.lemmas.List.{length-append, length-map}
use Rattle.std.proofs.lemmas.List.Elements.{All-nil}
use Rattle.sv_value.specs.declared.values.Key.{Key}
use Rattle.sv_value.specs.declared.values.Val.{Val}
use Rattle.sv_app.specs.declared.apps.Ident.{Ident}
use Rattle.sv_app.specs.declared.instances.Instance.{Instance}
use Rattle.sv_app.specs.declared.instances.Source.{Source}
use Rattle.sv_app.specs.declared.instances.Source.TheVariants as sources
use Rattle.sv_app.specs.declared.names.Meaning.TheVariants.{Row as RowOf, Constant}
use Rattle.sv_app.specs.declared.places.Place.{Place}
use Rattle.sv_app.specs.declared.schemas.Ty.TheVariants as types
use Rattle.sv_app.specs.Scopes.{Scope, knowing}
use Rattle.sv_app.specs.Symbols.{is_same_source, is_known, is_one_of, block_assigns, known_after}
use Rattle.sv_app.specs.Tables.{Row}
use Rattle.sv_app.specs.Trees.{Test, Block, ForRows, ForEach}
use Rattle.sv_app.specs.Units.{units, loop_variables, unit_of}
use Rattle.sv_effect.specs.Run.{Stand, Flow, Goes, with_scope, with_value, with_row, begun, beginning, closed, instance, instance_of, if_present, row_turn, item_turn, turns, left_loop, run_block}
use Rattle.sv_effect.specs.RunChanges.{Effect}
use Rattle.sv_effect.specs.RunValues.{Progress, Scope as Values, with_progress, column}
use Rattle.sv_app.proofs.TestLaws.{other_test}
use Rattle.sv_trace.specs.Standing.{Frame, names_in, type_of_val, CommandIn, Holds}
use Rattle.sv_trace.proofs.ChangeLaws.{own_rows_fit}
use Rattle.sv_trace.proofs.LoopLaws.{row_begins, item_begins}
use Rattle.sv_trace.proofs.RunLaws.{goes_on, setting}
use Rattle.sv_trace.proofs.StatementLaws.{same_stand}
use Rattle.sv_trace.proofs.UnitLaws.{Each}
use Rattle.sv_app.specs.Fitting.{HasType}
use Rattle.sv_linear.specs.Facts.{HoldsOn, facts_hold}
use Rattle.sv_symbolic.specs.Drawn.{IsDrawn, change_on, changes_in}
use Rattle.sv_trace.specs.Places.{name_in, KnownBelow}
use Rattle.sv_symbolic.specs.Sketches.{Drawing, form_of}
use Rattle.sv_symbolic.specs.Routes.{after_loop, draw_block, draw_unit, blank}
use Rattle.sv_symbolic.proofs.Following.{AllUpTo, Fits, Kept, Follows, Turning}
use Rattle.sv_symbolic.proofs.Relation.{Stands, val_in, read_in, sketch_at}
use Rattle.sv_symbolic.proofs.DrawLaws.{same_source}
use Rattle.sv_symbolic.proofs.PlaceLaws.{fewer_known}
use Rattle.sv_symbolic.proofs.RouteLaws.{kept_none, kept_then, kept_value, kept_row}

changes_none : (n m : ℕ) (es : List Effect) → n < m → AllUpTo n es → changes_in m es ≡ []
changes_none n m [] less all = refl
changes_none n m (e ∷ es) less all = rw (other_test e.instance m (λ same. omega (arith, less, all.0, same))) (changes_none n m es less all.1)

few_wider : (n m : ℕ) (es : List Effect) → n ≤ m → AllUpTo n es → AllUpTo m es
few_wider n m [] le all = tt
few_wider n m (e ∷ es) le all = (omega (arith, le, all.0), few_wider n m es le all.1)

abbrev pub Told : Frame → Stand → Type 0
Told f st = (n : ℕ) (i : Instance) → slice_get st.instances n ≡ Some i → IsDrawn f.schema f.txn (changes_in (suc n) st.effects) i

-- the begin of an instance
pub fits_begin : (f : Frame) (st : Stand) (s : Values) (u : ℕ) → AllUpTo (length st.instances) st.effects → Told f st → Fits f false (with_scope st (with_progress s (beginning u (suc (length st.instances))))) blank
fits_begin f st s u few told = record {
  agrees = record { sources = λ q is. absurd cc; olds = λ i c is. absurd i; facts = λ rest. All-nil (HoldsOn rest) };
  changes = λ rest. sym (changes_none (length st.instances) (suc (length st.instances)) st.effects (omega arith) few);
  number = refl;
  few = few_wider (length st.instances) (suc (length st.instances)) st.effects (omega arith) few;
  told = told;
}

-- an instance that went along a whole unit
pub is_drawn : (f : Frame) (outer : Bool) (k u n : ℕ) (xs : List ℕ) (body : Block) (st end : Stand) → slice_get (units f.txn.body) u ≡ Some body → st.scope.progress ≡ beginning u n
    → Follows f outer k xs (draw_block f.schema (names_in f) body) st blank end → IsDrawn f.schema f.txn (changes_in end.scope.progress.number end.effects) (instance_of end.scope.progress)
is_drawn f outer k u n xs body st end unit begins follows = record {
  body = body;
  unit = ap (slice_get (units f.txn.body)) (follows.later.unit ∙ ap (λ (p : Progress). p.unit) begins) ∙ unit;
  end = sketch_at [] end.scope.progress follows.after;
  route =
      ap (λ l. draw_unit f.schema f.txn body l) (follows.later.choices ∙ ap (λ (p : Progress). p.choices ++ follows.grown) begins ∙ sym (append-nil follows.grown))
      ∙ ap (λ p. draw_block f.schema (names_in f) body (sketch_at (follows.grown ++ []) p blank)) (sym begins)
      ∙ follows.leads [];
  whole = refl;
  symbols = length-map end.scope.progress.tape type_of_val;
  facts = subst (λ l. facts_hold l follows.after.facts) (append-nil end.scope.progress.tape) (follows.fits.agrees.facts []);
  effects = ap (λ l. map (change_on l) follows.after.effects) (sym (append-nil end.scope.progress.tape)) ∙ follows.fits.changes [];
}

slice_push : {A : Type 0} (xs : List A) (x : A) (n : ℕ) (y : A) → slice_get (xs ++ x ∷ []) n ≡ Some y → (slice_get xs n ≡ Some y) ⊎ ((n ≡ length xs) × (x ≡ y))
slice_push [] x zero y e = inr (refl, (let same : x ≡ y = cc in same))
slice_push [] x (suc zero) y e = absurd cc
slice_push [] x (suc (suc n)) y e = absurd cc
slice_push (z ∷ xs) x zero y e = inl e
slice_push (z ∷ xs) x (suc n) y e = later (slice_push xs x n y e)
  where
    later : (slice_get xs n ≡ Some y) ⊎ ((n ≡ length xs) × (x ≡ y)) → (slice_get xs n ≡ Some y) ⊎ ((suc n ≡ suc (length xs)) × (x ≡ y))
    later (inl h) = inl h
    later (inr h) = inr (ap suc h.0, h.1)

-- the relation over turns
pub turning_none : (f : Frame) (k : ℕ) (xs : List ℕ) (st : Stand) → AllUpTo (length st.instances) st.effects → Told f st → Turning f k xs st st
turning_none f k xs st few told = record { progress = refl; kept = kept_none k xs st.scope; zero = refl; few = few; told = told }

pub turning_then : (f : Frame) (k : ℕ) (xs : List ℕ) (st mid end : Stand) → Turning f k xs st mid → Turning f k xs mid end → Turning f k xs st end
turning_then f k xs st mid end a b = record { progress = b.progress ∙ a.progress; kept = kept_then k xs st.scope mid.scope end.scope a.kept b.kept; zero = b.zero ∙ a.zero; few = b.few; told = b.told }

module _ (f : Frame) (k : ℕ) (body : Block) where
  turn_ends : (u : ℕ) (st : Stand) (s : Values) (mid : Stand) → slice_get (units f.txn.body) u ≡ Some body → Kept k (block_assigns body) st.scope s
      → Follows f false (suc k) (block_assigns body) (draw_block f.schema (names_in f) body) (with_scope st (with_progress s (beginning u (suc (length st.instances))))) blank mid
      → Turning f k (block_assigns body) st (closed st.scope.progress mid)
  turn_ends u st s mid unit kept follows = record {
    progress = refl;
    kept = record {
      values = λ y less other. follows.kept.values y (omega (arith, less)) other ∙ kept.values y less other;
      rows = λ r less. follows.kept.rows r (omega (arith, less)) ∙ kept.rows r less;
    };
    zero = follows.zero refl;
    few = few_wider (suc (length mid.instances)) (length (mid.instances ++ i ∷ [])) mid.effects (omega (arith, length-append mid.instances (i ∷ []))) follows.fits.few;
    told = λ n j at. told n j (slice_push mid.instances i n j at);
  }
    where
      i : Instance
      i = instance_of mid.scope.progress

      drawn : IsDrawn f.schema f.txn (changes_in mid.scope.progress.number mid.effects) i
      drawn = is_drawn f false (suc k) u (suc (length st.instances)) (block_assigns body) body (with_scope st (with_progress s (beginning u (suc (length st.instances))))) mid unit refl follows

      told : (n : ℕ) (j : Instance) → (slice_get mid.instances n ≡ Some j) ⊎ ((n ≡ length mid.instances) × (i ≡ j)) → IsDrawn f.schema f.txn (changes_in (suc n) mid.effects) j
      told n j (inl h) = follows.fits.told n j h
      told n j (inr h) =
          let number : mid.scope.progress.number ≡ suc n = follows.fits.number ∙ ap suc (sym h.0) in
          subst (λ x. IsDrawn f.schema f.txn (changes_in (suc n) mid.effects) x) h.1 (subst (λ m. IsDrawn f.schema f.txn (changes_in m mid.effects) i) number drawn)

  -- a body that goes along its route
  abbrev pub RunsBody : Scope → Type 0
  RunsBody at = (st end : Stand) → Holds f at st → KnownBelow (suc k) st.scope.progress.known → Fits f false st blank → run_block (setting f) body st ≡ Goes end → Follows f false (suc k) (block_assigns body) (draw_block f.schema (names_in f) body) st blank end

  nothing_known : KnownBelow (suc k) []
  nothing_known = record { each = λ q is. absurd cc }

  pub turning_row : (at : Scope) (r t : Ident) (test : Option Test) → CommandIn f at (ForRows r t test body) → r.num ≡ k → RunsBody (knowing at r (RowOf t)) → (key : Key) (st end : Stand) → Holds f at st
      → AllUpTo (length st.instances) st.effects → Told f st → row_turn (unit_of (loop_variables f.txn.body) r.num) r.num t.num (run_block (setting f) body) key st ≡ Goes end → Turning f k (block_assigns body) st end
  turning_row at r t test command number run key st end holds few told is = by_row (get st.tables p) refl is
    where
      p : Place
      p = record { table = t.num; key = key }

      u : ℕ
      u = unit_of (loop_variables f.txn.body) r.num

      go : Row → Stand → Flow
      go row = instance u (λ z. run_block (setting f) body (with_scope z (with_row r.num row.values z.scope)))

      skipped : Goes st ≡ Goes end → Turning f k (block_assigns body) st end
      skipped e = subst (Turning f k (block_assigns body) st) (same_stand st end e) (turning_none f k (block_assigns body) st few told)

      by_row : (o : Option Row) → get st.tables p ≡ o → if_present o go st ≡ Goes end → Turning f k (block_assigns body) st end
      by_row None found e = skipped e
      by_row (Some row) found e = by_mark row.present e
        where
          by_mark : (b : Bool) → (if b then go row st else Goes st) ≡ Goes end → Turning f k (block_assigns body) st end
          by_mark false e = skipped e
          by_mark true e =
              let s : Values = with_row r.num row.values st.scope in
              let begin : Stand = with_scope (begun u st) (with_row r.num row.values (begun u st).scope) in
              let went = goes_on (run_block (setting f) body begin) (λ z. Goes (closed st.scope.progress z)) end e in
              let le : k ≤ r.num = omega (arith, number) in
              let follows = run begin went.mid (row_begins f at r t test body u key row st command holds (own_rows_fit f at st p (Some row) holds found)) nothing_known (fits_begin f st s u few told) went.first_is in
              subst (Turning f k (block_assigns body) st) (same_stand (closed st.scope.progress went.mid) end went.rest)
              (turn_ends u st s went.mid command.suits.1 (kept_row k (block_assigns body) r.num row.values st.scope le) follows)

  pub turning_item : (at : Scope) (x l : Ident) → CommandIn f at (ForEach x l body) → x.num ≡ k → RunsBody (knowing at x Constant) → (v : Val) (st end : Stand) → HasType types.Int v → Holds f at st
      → AllUpTo (length st.instances) st.effects → Told f st → item_turn (unit_of (loop_variables f.txn.body) x.num) x.num (run_block (setting f) body) v st ≡ Goes end → Turning f k (block_assigns body) st end
  turning_item at x l command number run v st end fits holds few told is =
      let u : ℕ = unit_of (loop_variables f.txn.body) x.num in
      let s : Values = with_value x.num v st.scope in
      let begin : Stand = with_scope (begun u st) (with_value x.num v (begun u st).scope) in
      let went = goes_on (run_block (setting f) body begin) (λ z. Goes (closed st.scope.progress z)) end is in
      let follows = run begin went.mid (item_begins f at x l body u v st command holds fits) nothing_known (fits_begin f st s u few told) went.first_is in
      let differ : (y : ℕ) → y < k → list_any (λ z. y == z) (block_assigns body) ≡ false → x.num ≡ y → ⊥ = λ y less other same. omega (arith, number, less, same) in
      subst (Turning f k (block_assigns body) st) (same_stand (closed st.scope.progress went.mid) end went.rest)
      (turn_ends u st s went.mid command.suits.1 (kept_value k (block_assigns body) x.num v st.scope differ) follows)

  pub all_turning : {A : Type 0} (P : A → Type 0) (at : Scope) (items : List A) (turn : A → Stand → Flow) → Each P items
      → ((x : A) (st end : Stand) → P x → Holds f at st → AllUpTo (length st.instances) st.effects → Told f st → turn x st ≡ Goes end → Turning f k (block_assigns body) st end × Holds f at end)
      → (st end : Stand) → Holds f at st → AllUpTo (length st.instances) st.effects → Told f st → turns items turn st ≡ Goes end → Turning f k (block_assigns body) st end
  all_turning P at [] turn all one st end holds few told is = subst (Turning f k (block_assigns body) st) (same_stand st end is) (turning_none f k (block_assigns body) st few told)
  all_turning P at (x ∷ items) turn all one st end holds few told is =
      let went = goes_on (turn x st) (turns items turn) end is in
      let first = one x st went.mid all.0 holds few told went.first_is in
      turning_then f k (block_assigns body) st went.mid end first.0 (all_turning P at items turn all.1 one went.mid end first.1 first.0.few first.0.told went.rest)

  -- behind a loop
  not_assigned : (known : List Source) (q : Source) → is_known q (known_after (block_assigns body) known) ≡ true → is_one_of (block_assigns body) q ≡ false
  not_assigned [] q e = absurd cc
  not_assigned (p ∷ known) q e = by_one (is_one_of (block_assigns body) p) refl (not_assigned known q) e
    where
      by_one : (b : Bool) → is_one_of (block_assigns body) p ≡ b → (is_known q (known_after (block_assigns body) known) ≡ true → is_one_of (block_assigns body) q ≡ false)
          → is_known q (if not b then p ∷ known_after (block_assigns body) known else known_after (block_assigns body) known) ≡ true → is_one_of (block_assigns body) q ≡ false
      by_one true one ih e = ih e
      by_one false one ih e = by_same (is_same_source q p) refl e
        where
          by_same : (b : Bool) → is_same_source q p ≡ b → (b || is_known q (known_after (block_assigns body) known)) ≡ true → is_one_of (block_assigns body) q ≡ false
          by_same true same h = ap (is_one_of (block_assigns body)) (same_source q p same) ∙ one
          by_same false same h = ih h

  read_kept : (s z : Values) (q : Source) → Kept k (block_assigns body) s z → name_in q < k → is_one_of (block_assigns body) q ≡ false → read_in q s.values s.rows ≡ read_in q z.values z.rows
  read_kept s z (sources.Variable x) kept less other = sym (kept.values x less other)
  read_kept s z (sources.Column r c) kept less other = ap (λ (l : List _). val_in (column l c)) (sym (kept.rows r less))

  pub follows_loop : (st mid end : Stand) (d : Drawing) → Turning f k (block_assigns body) st mid → KnownBelow k st.scope.progress.known → Fits f true st d → left_loop body mid ≡ Goes end
      → Follows f true k (block_assigns body) (after_loop body) st d end
  follows_loop st mid end d turned below fits is = subst (Follows f true k (block_assigns body) (after_loop body) st d) (same_stand (ended mid.scope.progress) end is)
      (subst (λ p. Follows f true k (block_assigns body) (after_loop body) st d (ended p)) (sym turned.progress) done)
    where
      after : Progress → Progress
      after p = record p { known = known_after (block_assigns body) p.known }

      ended : Progress → Stand
      ended p = with_scope mid (with_progress mid.scope (after p))

      sources_stand : (q : Source) → is_known q (known_after (block_assigns body) st.scope.progress.known) ≡ true → Stands st.scope.progress.tape (form_of d.sources q) (read_in q mid.scope.values mid.scope.rows)
      sources_stand q known =
          let before : is_known q st.scope.progress.known ≡ true = fewer_known f.schema (names_in f) (block_assigns body) st.scope.progress.known q known in
          subst (λ v. Stands st.scope.progress.tape (form_of d.sources q) v) (read_kept st.scope mid.scope q turned.kept (below.each q before) (not_assigned st.scope.progress.known q known)) (fits.agrees.sources q before)

      fitted : Fits f true (ended st.scope.progress) d
      fitted = record {
        agrees = record { sources = sources_stand; olds = λ i c is. absurd i; facts = fits.agrees.facts };
        changes = λ rest. fits.changes rest ∙ ap (λ n. changes_in n st.effects) fits.number ∙ sym turned.zero ∙ ap (λ n. changes_in n mid.effects) (sym fits.number);
        number = fits.number;
        few = turned.few;
        told = turned.told;
      }

      done : Follows f true k (block_assigns body) (after_loop body) st d (ended st.scope.progress)
      done = record {
        grown = [];
        after = d;
        leads = λ left. refl;
        fits = fitted;
        later = record { unit = refl; number = refl; choices = sym (append-nil st.scope.progress.choices); more = []; tape = sym (append-nil st.scope.progress.tape) };
        kept = record { values = turned.kept.values; rows = turned.kept.rows };
        zero = λ i. absurd cc;
      }
