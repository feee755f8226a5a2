-- What a search finds among rising rows, and what an edit at that place does to the tables.
use Rattle.std.proofs.Common.{◌≡◌, ℕ, zero, suc, ◌<◌, ◌≤◌, Bool, true, false, cond, List, [], ◌∷◌, length, get_or, set, Option, Some, None, slice_get, Result, Ok, Err, IfOk, IfErr, refl, sym, ap, subst, ◌∙◌, arith, ◌⊎◌, inl, inr}
use Rattle.std.specs.Prelude.{map}
use Rattle.std.specs.List.{insert}
use Rattle.std.specs.List.Sorted.{IsSearchInRange, IsBinarySearchResult, IsNonDecreasingBy}
use Rattle.std.specs.declared.cmp.Ordering.{Ordering}
use Rattle.std.specs.declared.cmp.Ordering.TheVariants.{Less, Equal, Greater}
use Rattle.std.specs.Ordering.{ordering_index, ordering_reverse, is_eq}
use Rattle.std.specs.FinMap.{find, get, get-insert, get-from_entries, same_map}
use Rattle.std.specs.FinMap as map_of
use Rattle.std.proofs.lemmas.Option.{get_or_from_slice_get, slice_get_within, slice_get-get_or}
use Rattle.std.proofs.lemmas.Bool.{cases_eq}
use Rattle.std.proofs.lemmas.Map.Views.{tells_apart}
use Rattle.std.proofs.lemmas.List.Sorted.{IsNonDecreasingBy-from_default}
use Rattle.sv_app.specs.declared.places.Place.{Place}
use Rattle.sv_app.specs.Tables.{place_cmp}
use Rattle.sv_effect.specs.StampedTables.{StampedRow, row_of}
use Rattle.sv_app.proofs.PlaceLaws.{place_total, exact_places}
use Rattle.sv_store.specs.declared.rows.KeptRow.{KeptRow}
use Rattle.sv_effect.specs.TablesOfCut.{is_place}
use Rattle.std.specs.Prelude.{T, ◌&&◌}
use Rattle.std.specs.FinMap.{is_sorted}
use Rattle.std.specs.FinMap.Entries.{below_all}
use Rattle.sv_store.specs.Stored.{entry_of, tables_in, AreRising, IsAt, IsGapFor}

lower_apart : (p q : Place) → place_cmp p q ≡ Less → is_place q p ≡ false
lower_apart p q less = ap is_eq (place_total.antisymm q p ∙ ap ordering_reverse less)

greater_apart : (p q : Place) → place_cmp p q ≡ Greater → is_place q p ≡ false
greater_apart p q more = ap is_eq (place_total.antisymm q p ∙ ap ordering_reverse more)

same_place : (p q : Place) → p ≡ q → is_place q p ≡ true
same_place p q e = subst (λ x. is_place x p ≡ true) e (ap is_eq (tied p))
  where
    tied : (x : Place) → place_cmp x x ≡ Equal
    tied x = itself (place_cmp x x) (place_total.antisymm x x)
      where
        itself : (o : Ordering) → o ≡ ordering_reverse o → o ≡ Equal
        itself Less e = absurd cc
        itself Equal e = refl
        itself Greater e = absurd cc

-- comparisons with a place rise along rising places
order_rises : (x y p : Place) → place_cmp x y ≡ Less → ordering_index (place_cmp x p) ≤ ordering_index (place_cmp y p)
order_rises x y p less = by (place_cmp y p) refl
  where
    most : (o : Ordering) → ordering_index o ≤ 2
    most Less = omega arith
    most Equal = omega arith
    most Greater = omega arith

    by : (o : Ordering) → place_cmp y p ≡ o → ordering_index (place_cmp x p) ≤ ordering_index o
    by Less e = rw (place_total.trans x y p less e) (omega arith)
    by Equal e = let is : y ≡ p = exact_places y p e in rw (subst (λ z. place_cmp x z ≡ Less) is less) (omega arith)
    by Greater e = most (place_cmp x p)

get_at : (some_row : KeptRow) (rows : List KeptRow) (i : ℕ) (row : KeptRow) → slice_get rows i ≡ Some row → get_or rows i some_row ≡ row
get_at some_row rows i row e = get_or_from_slice_get rows i row some_row e

comparisons_rise : (some_row : KeptRow) (rows : List KeptRow) → AreRising rows → (p : Place) → IsNonDecreasingBy (λ row. ordering_index (place_cmp row.place p)) rows
comparisons_rise some_row rows rising p = IsNonDecreasingBy-from_default (λ row. ordering_index (place_cmp row.place p)) rows some_row (λ i j le in_range. rise i j le in_range (cases_eq i j))
  where
    rise : (i j : ℕ) → i ≤ j → j < length rows → (i ≡ j) ⊎ (i ≡ j → ⊥) → ordering_index (place_cmp (get_or rows i some_row).place p) ≤ ordering_index (place_cmp (get_or rows j some_row).place p)
    rise i j le lt (inl same) = subst (λ k. ordering_index (place_cmp (get_or rows i some_row).place p) ≤ ordering_index (place_cmp (get_or rows k some_row).place p)) same (omega arith)
    rise i j le lt (inr apart) =
        order_rises (get_or rows i some_row).place (get_or rows j some_row).place p
        (rising i j (get_or rows i some_row) (get_or rows j some_row) (omega (arith, le, apart)) (slice_get-get_or rows i some_row (omega (arith, le, lt))) (slice_get-get_or rows j some_row lt))

searched_from : (some_row : KeptRow) (rows : List KeptRow) → AreRising rows → (p : Place) (r : Result ℕ ℕ) → IsSearchInRange r (length rows) → IsBinarySearchResult (λ row. place_cmp row.place p) rows r
    → record { found : IfOk r (IsAt rows p); absent : IfErr r (IsGapFor rows p) }
searched_from some_row rows rising p (Ok at) in_range equal = record {
  found = record { row = get_or rows at some_row; stands = slice_get-get_or rows at some_row in_range; is = exact_places (get_or rows at some_row).place p (equal some_row) };
  absent = tt;
}
searched_from some_row rows rising p (Err at) in_range parted = record {
  found = tt;
  absent = record {
    within = in_range;
    lower = λ i row lt get. subst (λ r. place_cmp r.place p ≡ Less) (get_at some_row rows i row get) ((parted (comparisons_rise some_row rows rising p)).0 i some_row (omega arith) lt);
    greater = λ i row le get. subst (λ r. place_cmp r.place p ≡ Greater) (get_at some_row rows i row get) ((parted (comparisons_rise some_row rows rising p)).1 i some_row le (slice_get_within rows i row get));
  };
}

-- a binary search ends at the place, or at the gap for it
pub searched : (rows : List KeptRow) → AreRising rows → (p : Place) (r : Result ℕ ℕ) → IsSearchInRange r (length rows) → IsBinarySearchResult (λ row. place_cmp row.place p) rows r
    → record { found : IfOk r (IsAt rows p); absent : IfErr r (IsGapFor rows p) }
searched [] rising p (Ok at) in_range equal = absurd (omega (arith, in_range))
searched [] rising p (Err at) in_range parted = record { found = tt; absent = record { within = in_range; lower = λ i row lt get. absurd cc; greater = λ i row le get. absurd cc } }
searched (x ∷ rows) rising p r in_range parted = searched_from x (x ∷ rows) rising p r in_range parted

rising_rest : (x : KeptRow) (rows : List KeptRow) → AreRising (x ∷ rows) → AreRising rows
rising_rest x rows rising i j a b lt at_i at_j = rising (suc i) (suc j) a b (omega (arith, lt)) at_i at_j

-- the row at its place is found
pub find_at : (rows : List KeptRow) (p : Place) (at : ℕ) (row : KeptRow) → AreRising rows → slice_get rows at ≡ Some row → row.place ≡ p
    → find place_cmp p (map entry_of rows) ≡ Some (row_of row.row)
find_at [] p at row rising stands is = absurd cc
find_at (x ∷ rows) p zero row rising stands is =
    let same : x ≡ row = cc in
    rw (same_place x.place p (ap (λ r. r.place) same ∙ is)) (λ i. Some (row_of (same i).row))
find_at (x ∷ rows) p (suc at) row rising stands is =
    let less : place_cmp x.place row.place ≡ Less = rising 0 (suc at) x row (omega arith) refl stands in
    rw (lower_apart x.place p (subst (λ q. place_cmp x.place q ≡ Less) is less)) (find_at rows p at row (rising_rest x rows rising) stands is)

-- a place whose gap is known has no row
pub find_gap : (rows : List KeptRow) (p : Place) → ((i : ℕ) (row : KeptRow) → slice_get rows i ≡ Some row → is_place p row.place ≡ false) → find place_cmp p (map entry_of rows) ≡ None
find_gap [] p apart = refl
find_gap (x ∷ rows) p apart = rw (apart 0 x refl) (find_gap rows p (λ i row get. apart (suc i) row get))

order : (a b : ℕ) → (a < b) ⊎ (b ≤ a)
order zero zero = inr (omega arith)
order zero (suc b) = inl (omega arith)
order (suc a) zero = inr (omega arith)
order (suc a) (suc b) = up (order a b)
  where
    up : (a < b) ⊎ (b ≤ a) → (suc a < suc b) ⊎ (suc b ≤ suc a)
    up (inl l) = inl (omega (arith, l))
    up (inr l) = inr (omega (arith, l))

pub gap_apart : (rows : List KeptRow) (p : Place) (at : ℕ) → IsGapFor rows p at → (i : ℕ) (row : KeptRow) → slice_get rows i ≡ Some row → is_place p row.place ≡ false
gap_apart rows p at gap i row stands = from (order i at)
  where
    from : (i < at) ⊎ (at ≤ i) → is_place p row.place ≡ false
    from (inl lt) = lower_apart row.place p (gap.lower i row lt stands)
    from (inr le) = greater_apart row.place p (gap.greater i row le stands)

-- an edit of a later row
swap : (a b : Bool) (m n o : Option StampedRow) → (a ≡ true → b ≡ true → ⊥) → cond a m (cond b n o) ≡ cond b n (cond a m o)
swap true true m n o apart = absurd (apart refl refl)
swap true false m n o apart = refl
swap false b m n o apart = refl

never : (q p r : Place) → is_place q p ≡ true → is_place q r ≡ true → is_place r p ≡ false → ⊥
never q p r at_p at_r apart =
    let a : q ≡ p = tells_apart exact_places q p at_p in
    let b : q ≡ r = tells_apart exact_places q r at_r in
    let c : is_place r p ≡ true = subst (λ x. is_place x p ≡ true) b (subst (λ x. is_place q x ≡ true) refl at_p) in
    absurd cc

-- a row written over at its place
pub find_set : (rows : List KeptRow) (at : ℕ) (row new : KeptRow) → AreRising rows → slice_get rows at ≡ Some row → row.place ≡ new.place → (q : Place)
    → find place_cmp q (map entry_of (set rows at new)) ≡ cond (is_place q new.place) (Some (row_of new.row)) (find place_cmp q (map entry_of rows))
find_set [] at row new rising stands is q = absurd cc
find_set (x ∷ rows) zero row new rising stands is q =
    let same : x ≡ row = cc in
    let here : x.place ≡ new.place = ap (λ r. r.place) same ∙ is in
    rw here (shadow (is_place q new.place) (Some (row_of new.row)) (Some (row_of x.row)) (find place_cmp q (map entry_of rows)))
  where
    shadow : (b : Bool) (m n o : Option StampedRow) → cond b m o ≡ cond b m (cond b n o)
    shadow true m n o = refl
    shadow false m n o = refl
find_set (x ∷ rows) (suc at) row new rising stands is q =
    let less : place_cmp x.place row.place ≡ Less = rising 0 (suc at) x row (omega arith) refl stands in
    let apart : is_place new.place x.place ≡ false = lower_apart x.place new.place (subst (λ p. place_cmp x.place p ≡ Less) is less) in
    ap (λ o. cond (is_place q x.place) (Some (row_of x.row)) o) (find_set rows at row new (rising_rest x rows rising) stands is q)
    ∙ swap (is_place q x.place) (is_place q new.place) _ _ (find place_cmp q (map entry_of rows)) (λ a b. never q x.place new.place a b apart)

-- a row put into the gap
pub find_insert : (rows : List KeptRow) (at : ℕ) (new : KeptRow) → at ≤ length rows → ((i : ℕ) (row : KeptRow) → i < at → slice_get rows i ≡ Some row → is_place row.place new.place ≡ false) → (q : Place)
    → find place_cmp q (map entry_of (insert rows at new)) ≡ cond (is_place q new.place) (Some (row_of new.row)) (find place_cmp q (map entry_of rows))
find_insert rows zero new within lower q = refl
find_insert [] (suc at) new within lower q = absurd (omega (arith, within))
find_insert (x ∷ rows) (suc at) new within lower q =
    let apart : is_place x.place new.place ≡ false = lower 0 x (omega arith) refl in
    ap (λ o. cond (is_place q x.place) (Some (row_of x.row)) o) (find_insert rows at new (omega (arith, within)) (λ i row lt get. lower (suc i) row (omega (arith, lt)) get) q)
    ∙ swap (is_place q x.place) (is_place q new.place) _ _ (find place_cmp q (map entry_of rows)) (λ a b. never q new.place x.place b a apart)

-- the tables after an edit
pub tables_set : (rows : List KeptRow) (at : ℕ) (row new : KeptRow) → AreRising rows → slice_get rows at ≡ Some row → row.place ≡ new.place
    → tables_in (set rows at new) ≡ map_of.insert (tables_in rows) new.place (row_of new.row)
tables_set rows at row new rising stands is = same_map place_total exact_places _ _ (λ q.
    get-from_entries place_total (map entry_of (set rows at new)) q ∙ find_set rows at row new rising stands is q
    ∙ ap (cond (is_place q new.place) (Some (row_of new.row))) (sym (get-from_entries place_total (map entry_of rows) q))
    ∙ sym (get-insert place_total (tables_in rows) new.place (row_of new.row) q))

pub tables_insert : (rows : List KeptRow) (at : ℕ) (new : KeptRow) → IsGapFor rows new.place at
    → tables_in (insert rows at new) ≡ map_of.insert (tables_in rows) new.place (row_of new.row)
tables_insert rows at new gap = same_map place_total exact_places _ _ (λ q.
    get-from_entries place_total (map entry_of (insert rows at new)) q ∙ find_insert rows at new gap.within (λ i row lt get. apart_too row (gap.lower i row lt get)) q
    ∙ ap (cond (is_place q new.place) (Some (row_of new.row))) (sym (get-from_entries place_total (map entry_of rows) q))
    ∙ sym (get-insert place_total (tables_in rows) new.place (row_of new.row) q))
  where
    apart_too : (row : KeptRow) → place_cmp row.place new.place ≡ Less → is_place row.place new.place ≡ false
    apart_too row less = ap is_eq less

-- what stands after a write over, and after an insertion
get_set : (rows : List KeptRow) (at : ℕ) (new : KeptRow) (j : ℕ) (a : KeptRow) → slice_get (set rows at new) j ≡ Some a → ((j ≡ at) × (new ≡ a)) ⊎ (slice_get rows j ≡ Some a)
get_set [] at new j a e = inr e
get_set (x ∷ rows) zero new zero a e = inl (refl, cc)
get_set (x ∷ rows) zero new (suc j) a e = inr e
get_set (x ∷ rows) (suc at) new zero a e = inr e
get_set (x ∷ rows) (suc at) new (suc j) a e = up (get_set rows at new j a e)
  where
    up : ((j ≡ at) × (new ≡ a)) ⊎ (slice_get rows j ≡ Some a) → ((suc j ≡ suc at) × (new ≡ a)) ⊎ (slice_get rows j ≡ Some a)
    up (inl both) = inl (ap suc both.0, both.1)
    up (inr old) = inr old

-- an item of a list with one put in stood before the gap, is the new one, or stood behind the gap, one place lower
pub data Stands {A : Type 0} (rows : List A) (at : ℕ) (new : A) (j : ℕ) (a : A) : Type 0 where
  before : j < at → slice_get rows j ≡ Some a → Stands rows at new j a
  here : j ≡ at → new ≡ a → Stands rows at new j a
  behind : (k : ℕ) → j ≡ suc k → at ≤ k → slice_get rows k ≡ Some a → Stands rows at new j a

pub get_insert : {A : Type 0} (rows : List A) (at : ℕ) (new : A) (j : ℕ) (a : A) → at ≤ length rows → slice_get (insert rows at new) j ≡ Some a → Stands rows at new j a
get_insert rows zero new zero a within e = here refl cc
get_insert rows zero new (suc j) a within e = behind j refl (omega arith) e
get_insert [] (suc at) new j a within e = absurd (omega (arith, within))
get_insert (x ∷ rows) (suc at) new zero a within e = before (omega arith) e
get_insert (x ∷ rows) (suc at) new (suc j) a within e = up (get_insert rows at new j a (omega (arith, within)) e)
  where
    up : Stands rows at new j a → Stands (x ∷ rows) (suc at) new (suc j) a
    up (before lt get) = before (omega (arith, lt)) get
    up (here is same) = here (ap suc is) same
    up (behind k is le get) = behind (suc k) (ap suc is) (omega (arith, le)) get

-- rows keep rising
pub rising_set : (rows : List KeptRow) (at : ℕ) (row new : KeptRow) → AreRising rows → slice_get rows at ≡ Some row → row.place ≡ new.place → AreRising (set rows at new)
rising_set rows at row new rising stands is i j a b lt at_i at_j = from (get_set rows at new i a at_i) (get_set rows at new j b at_j)
  where
    from : ((i ≡ at) × (new ≡ a)) ⊎ (slice_get rows i ≡ Some a) → ((j ≡ at) × (new ≡ b)) ⊎ (slice_get rows j ≡ Some b) → place_cmp a.place b.place ≡ Less
    from (inl x) (inl y) = absurd (omega (arith, lt, x.0, y.0))
    from (inl x) (inr y) =
        let less : place_cmp row.place b.place ≡ Less = rising at j row b (omega (arith, lt, x.0)) stands y in
        subst (λ p. place_cmp p b.place ≡ Less) (is ∙ ap (λ r. r.place) x.1) less
    from (inr x) (inl y) =
        let less : place_cmp a.place row.place ≡ Less = rising i at a row (omega (arith, lt, y.0)) x stands in
        subst (λ p. place_cmp a.place p ≡ Less) (is ∙ ap (λ r. r.place) y.1) less
    from (inr x) (inr y) = rising i j a b lt x y

pub rising_insert : (rows : List KeptRow) (at : ℕ) (new : KeptRow) → AreRising rows → IsGapFor rows new.place at → AreRising (insert rows at new)
rising_insert rows at new rising gap i j a b lt at_i at_j = from (get_insert rows at new i a gap.within at_i) (get_insert rows at new j b gap.within at_j)
  where
    above : (row : KeptRow) → place_cmp row.place new.place ≡ Greater → place_cmp new.place row.place ≡ Less
    above row more = place_total.antisymm new.place row.place ∙ ap ordering_reverse more

    from : Stands rows at new i a → Stands rows at new j b → place_cmp a.place b.place ≡ Less
    from (before x get_a) (before y get_b) = rising i j a b lt get_a get_b
    from (before x get_a) (here y same) = subst (λ r. place_cmp a.place r.place ≡ Less) same (gap.lower i a x get_a)
    from (before x get_a) (behind k y le get_b) = rising i k a b (omega (arith, x, le)) get_a get_b
    from (here x same) (before y get_b) = absurd (omega (arith, lt, x, y))
    from (here x same) (here y other) = absurd (omega (arith, lt, x, y))
    from (here x same) (behind k y le get_b) = subst (λ r. place_cmp r.place b.place ≡ Less) same (above b (gap.greater k b le get_b))
    from (behind k x le get_a) (before y get_b) = absurd (omega (arith, lt, x, y, le))
    from (behind k x le get_a) (here y same) = absurd (omega (arith, lt, x, y, le))
    from (behind k x le get_a) (behind m y more get_b) = rising k m a b (omega (arith, lt, x, y)) get_a get_b

-- what the tables have at a place
pub get-tables_in : (rows : List KeptRow) (p : Place) (at : ℕ) (row : KeptRow) → AreRising rows → slice_get rows at ≡ Some row → row.place ≡ p → get (tables_in rows) p ≡ Some (row_of row.row)
get-tables_in rows p at row rising stands is = get-from_entries place_total (map entry_of rows) p ∙ find_at rows p at row rising stands is

pub get-tables_gap : (rows : List KeptRow) (p : Place) (at : ℕ) → IsGapFor rows p at → get (tables_in rows) p ≡ None
get-tables_gap rows p at gap = get-from_entries place_total (map entry_of rows) p ∙ find_gap rows p (gap_apart rows p at gap)

-- a row that was read is the one that stands there
pub read_row : (rows : List KeptRow) (at : ℕ) (row read : KeptRow) → slice_get rows at ≡ Some row → read ≡ get_or rows at read → read ≡ row
read_row rows at row read stands e = e ∙ get_or_from_slice_get rows at row read stands

below_rows : (x : KeptRow) (rows : List KeptRow) → ((j : ℕ) (b : KeptRow) → slice_get rows j ≡ Some b → place_cmp x.place b.place ≡ Less) → T (below_all place_cmp x.place (map entry_of rows))
below_rows x [] less = tt
below_rows x (y ∷ rows) less = rw (less 0 y refl) (below_rows x rows (λ j b get. less (suc j) b get))

both_tests : (a b : Bool) → T a → T b → T (a && b)
both_tests true b p q = q
both_tests false b p q = p

sorted_rows : (rows : List KeptRow) → AreRising rows → T (is_sorted place_cmp (map entry_of rows))
sorted_rows [] rising = tt
sorted_rows (x ∷ rows) rising = both_tests _ _ (below_rows x rows (λ j b get. rising 0 (suc j) x b (omega arith) refl get)) (sorted_rows rows (rising_rest x rows rising))

-- the tables' entries are the rows in their order
pub entries-tables_in : (rows : List KeptRow) → AreRising rows → map_of.entries (tables_in rows) ≡ map entry_of rows
entries-tables_in rows rising =
    ap map_of.entries (same_map place_total exact_places (tables_in rows) (map_of.from_sorted (map entry_of rows)) (λ q.
    get-from_entries place_total (map entry_of rows) q ∙ sym (map_of.get-from_sorted place_cmp (map entry_of rows) q (sorted_rows rows rising))))
    ∙ map_of.entries-from_sorted place_cmp (map entry_of rows) (sorted_rows rows rising)
