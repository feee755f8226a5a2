-- The rows that are shown of a table rise by key, and are exactly those that are present there.
use Rattle.std.proofs.Common.{◌≡◌, ℕ, zero, suc, ◌<◌, Bool, true, false, cond, ◌&&◌, ◌==◌, List, [], ◌∷◌, length, filter, Some, slice_index_or, refl, sym, ap, subst, ◌∙◌, arith, T}
use Rattle.std.specs.Prelude.{Contains}
use Rattle.std.specs.declared.cmp.Ordering.{Ordering}
use Rattle.std.specs.declared.cmp.Ordering.TheVariants.{Less, Equal, Greater}
use Rattle.std.specs.Ordering.{ordering_reverse, is_eq, is_lt, eq_by_cmp}
use Rattle.std.specs.FinMap.{entries, entries_sorted, get, get-entries}
use Rattle.std.specs.FinMap.Entries.{find, is_sorted, below_all}
use Rattle.std.proofs.lemmas.Bool.Decides.{Decides-eqb}
use Rattle.sv_app.specs.declared.places.Place.{Place}
use Rattle.sv_app.specs.Tables.{place_cmp}
use Rattle.sv_effect.specs.StampedTables.{StampedRow, StampedTables}
use Rattle.sv_app.proofs.PlaceLaws.{place_total, exact_places}
use Rattle.sv_report.specs.ReplayText.{is_shown, rows_of}
use Rattle.sv_report.specs.Shows.{AreRowsOf}

both_true : (a b : Bool) → T (a && b) → T a × T b
both_true true true t = (tt, tt)
both_true true false t = absurd t
both_true false b t = absurd t

is_true : (b : Bool) → T b → b ≡ true
is_true true t = refl
is_true false t = absurd t

both_is : (a b : Bool) → (a && b) ≡ true → (a ≡ true) × (b ≡ true)
both_is true true e = (refl, refl)
both_is true false e = absurd cc
both_is false b e = absurd cc

is_less : (o : Ordering) → T (is_lt o) → o ≡ Less
is_less Less t = refl
is_less Equal t = absurd t
is_less Greater t = absurd t

is_equal : (o : Ordering) → is_eq o ≡ true → o ≡ Equal
is_equal Less e = absurd cc
is_equal Equal e = refl
is_equal Greater e = absurd cc

-- an entry behind a key that lies below all of them has a greater key
below_it : (x : Place) (es : List (Place × StampedRow)) (k : ℕ) (e : Place × StampedRow) → T (below_all place_cmp x es) → k < length es → slice_index_or es k e ≡ e → place_cmp x e.0 ≡ Less
below_it x [] k e below lt is = absurd (omega arith)
below_it x (d ∷ es) zero e below lt is = subst (λ y. place_cmp x y.0 ≡ Less) is (is_less (place_cmp x d.0) (both_true (is_lt (place_cmp x d.0)) (below_all place_cmp x es) below).0)
below_it x (d ∷ es) (suc k) e below lt is = below_it x es k e (both_true (is_lt (place_cmp x d.0)) (below_all place_cmp x es) below).1 (omega (arith, lt)) is

apart : (x q : Place) → place_cmp x q ≡ Less → eq_by_cmp place_cmp q x ≡ false
apart x q less = ap is_eq (place_total.antisymm q x ∙ ap ordering_reverse less)

itself : (x : Place) → eq_by_cmp place_cmp x x ≡ true
itself x = ap is_eq (tied (place_cmp x x) (place_total.antisymm x x))
  where
    tied : (o : Ordering) → o ≡ ordering_reverse o → o ≡ Equal
    tied Less e = absurd cc
    tied Equal e = refl
    tied Greater e = absurd cc

-- an entry that stands among rising ones is found by its key
found : (es : List (Place × StampedRow)) (q : Place) (row : StampedRow) → T (is_sorted place_cmp es) → Contains es (q, row) → find place_cmp q es ≡ Some row
found [] q row sorted (k, lt, at) = absurd (omega (arith, lt))
found (e ∷ es) q row sorted (zero, lt, at) = rw (at, itself q) refl
found (e ∷ es) q row sorted (suc k, lt, at) =
    let parts = both_true (below_all place_cmp e.0 es) (is_sorted place_cmp es) sorted in
    let within : k < length es = omega (arith, lt) in
    rw (apart e.0 q (below_it e.0 es k (q, row) parts.0 within at)) (found es q row parts.1 (k, within, at))

-- what is found by its key stands there
stands_by : (d : Place × StampedRow) (es : List (Place × StampedRow)) (q : Place) (row : StampedRow) → (find place_cmp q es ≡ Some row → Contains es (q, row))
    → (b : Bool) → eq_by_cmp place_cmp q d.0 ≡ b → cond b (Some d.1) (find place_cmp q es) ≡ Some row → Contains (d ∷ es) (q, row)
stands_by d es q row behind true same e =
    let key : d.0 ≡ q = sym (exact_places q d.0 (is_equal (place_cmp q d.0) same)) in
    let value : d.1 ≡ row = cc in
    (0, omega arith, λ i. (key i, value i))
stands_by d es q row behind false other e = let there = behind e in (suc there.0, omega (arith, there.1), there.2)

stands : (es : List (Place × StampedRow)) (q : Place) (row : StampedRow) → find place_cmp q es ≡ Some row → Contains es (q, row)
stands [] q row e = absurd cc
stands (d ∷ es) q row e = stands_by d es q row (stands es q row) (eq_by_cmp place_cmp q d.0) refl e

-- an entry of tables stands at its place
pub stands_found : (t : StampedTables) (e : Place × StampedRow) → Contains (entries t) e → get t e.0 ≡ Some e.1
stands_found t e has = get-entries t e.0 ∙ found (entries t) e.0 e.1 (entries_sorted t) has

-- the entries that pass a test rise as all of them do
below_among : (p : Place × StampedRow → Bool) (x : Place) (es : List (Place × StampedRow)) → T (below_all place_cmp x es) → T (below_all place_cmp x (filter p es))
below_among p x [] below = tt
below_among p x (e ∷ es) below =
    let parts = both_true (is_lt (place_cmp x e.0)) (below_all place_cmp x es) below in by parts.0 (below_among p x es parts.1) (p e)
  where
    by : T (is_lt (place_cmp x e.0)) → T (below_all place_cmp x (filter p es)) → (b : Bool) → T (below_all place_cmp x (cond b (e ∷ filter p es) (filter p es)))
    by here rest true = subst (λ c. T (c && below_all place_cmp x (filter p es))) (sym (is_true (is_lt (place_cmp x e.0)) here)) rest
    by here rest false = rest

sorted_among : (p : Place × StampedRow → Bool) (es : List (Place × StampedRow)) → T (is_sorted place_cmp es) → T (is_sorted place_cmp (filter p es))
sorted_among p [] sorted = tt
sorted_among p (e ∷ es) sorted =
    let parts = both_true (below_all place_cmp e.0 es) (is_sorted place_cmp es) sorted in by (below_among p e.0 es parts.0) (sorted_among p es parts.1) (p e)
  where
    by : T (below_all place_cmp e.0 (filter p es)) → T (is_sorted place_cmp (filter p es)) → (b : Bool) → T (is_sorted place_cmp (cond b (e ∷ filter p es) (filter p es)))
    by here rest true = subst (λ c. T (c && is_sorted place_cmp (filter p es))) (sym (is_true (below_all place_cmp e.0 (filter p es)) here)) rest
    by here rest false = rest

-- an entry is among those that pass a test exactly where it is an entry and passes it
pub behind : (d x : Place × StampedRow) (es : List (Place × StampedRow)) → Contains es x → Contains (d ∷ es) x
behind d x es has = (suc has.0, omega (arith, has.1), has.2)

among : (p : Place × StampedRow → Bool) (es : List (Place × StampedRow)) (x : Place × StampedRow) → Contains (filter p es) x → Contains es x × (p x ≡ true)
among p [] x (k, lt, at) = absurd (omega (arith, lt))
among p (e ∷ es) x has = by (λ there. among p es x there) (p e) refl has
  where
    by : (Contains (filter p es) x → Contains es x × (p x ≡ true)) → (b : Bool) → p e ≡ b → Contains (cond b (e ∷ filter p es) (filter p es)) x → Contains (e ∷ es) x × (p x ≡ true)
    by ih true passes (zero, lt, at) = ((0, omega arith, at), subst (λ y. p y ≡ true) at passes)
    by ih true passes (suc k, lt, at) = let there = ih (k, omega (arith, lt), at) in (behind e x es there.0, there.1)
    by ih false fails has = let there = ih has in (behind e x es there.0, there.1)

chosen : (p : Place × StampedRow → Bool) (es : List (Place × StampedRow)) (x : Place × StampedRow) → Contains es x → p x ≡ true → Contains (filter p es) x
chosen p [] x (k, lt, at) passes = absurd (omega (arith, lt))
chosen p (e ∷ es) x (zero, lt, at) passes = by (p e) (ap p at ∙ passes)
  where
    by : (b : Bool) → b ≡ true → Contains (cond b (e ∷ filter p es) (filter p es)) x
    by true is = (0, omega arith, at)
    by false is = let bad : true ≡ false = sym is in absurd cc
chosen p (e ∷ es) x (suc k, lt, at) passes = by (chosen p es x (k, omega (arith, lt), at) passes) (p e)
  where
    by : Contains (filter p es) x → (b : Bool) → Contains (cond b (e ∷ filter p es) (filter p es)) x
    by there true = behind e x (filter p es) there
    by there false = there

pub rows_of_law : (table : ℕ) (t : StampedTables) → AreRowsOf table t (rows_of table t)
rows_of_law table t = record {
  rising = is_true (is_sorted place_cmp (rows_of table t)) (sorted_among (is_shown table) (entries t) (entries_sorted t));
  members = λ place row. (
    λ held.
        let there = among (is_shown table) (entries t) (place, row) held in
        let tests = both_is (place.table == table) row.mark.value there.1 in
        ((Decides-eqb place.table table).0 tests.0, tests.1, stands_found t (place, row) there.0),
    λ kept. chosen (is_shown table) (entries t) (place, row) (stands (entries t) place row (sym (get-entries t place) ∙ kept.2))
        (rw ((Decides-eqb place.table table).1 kept.0) kept.1),
  );
}
