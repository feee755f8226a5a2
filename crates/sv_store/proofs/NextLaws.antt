-- The next key among rows in order of their places.
use Rattle.std.proofs.Common.{◌≡◌, ℕ, zero, suc, ◌+◌, ◌-◌, ◌<◌, ◌≤◌, ◌==◌, ◌&&◌, ◌||◌, if◌then◌else◌, cond, Bool, true, false, List, [], ◌∷◌, length, drop, take, get_or, Option, Some, None, slice_get, nat_lt, refl, sym, ap, subst, ◌∙◌, arith, ◌⊎◌, inl, inr}
use Rattle.std.specs.Prelude.{map, filter, IfSome}
use Rattle.std.specs.Option.{option_map}
use Rattle.std.specs.declared.cmp.Ordering.{Ordering}
use Rattle.std.specs.declared.cmp.Ordering.TheVariants.{Less, Equal, Greater}
use Rattle.std.specs.Ordering.{nat_cmp, ordering_then, ordering_reverse, is_eq, is_lt}
use Rattle.std.specs.FinMap.{find, get, get-entries, get-from_entries, entries}
use Rattle.std.proofs.lemmas.Bool.Decides.{nat_tests}
use Rattle.std.proofs.lemmas.Bool.{cases_eq}
use Rattle.std.proofs.lemmas.Cmp.{eq_by_cmp_equiv}
use Rattle.std.proofs.lemmas.List.{at_drop_more, at_drop_all, take_all}
use Rattle.std.proofs.lemmas.List.Sorted.{IsNonDecreasingBy-from_default}
use Rattle.std.proofs.lemmas.Option.{get_or_from_slice_get, slice_get_within, slice_get-get_or}
use Rattle.std.specs.List.Sorted.{IsNonDecreasingBy, IsPartitionPoint, IsPartitionedBy}
use Rattle.std.proofs.lemmas.Map.Views.{tells_apart}
use Rattle.sv_value.specs.declared.values.Key.{Key}
use Rattle.sv_value.specs.Orders.{key_cmp}
use Rattle.sv_value.proofs.OrderLaws.{key_total}
use Rattle.sv_app.specs.declared.places.Place.{Place}
use Rattle.sv_app.specs.Schema.{Declaration}
use Rattle.sv_app.specs.Tables.{place_cmp}
use Rattle.sv_app.proofs.PlaceLaws.{place_total, exact_places}
use Rattle.sv_effect.specs.StampedTables.{StampedRow, StampedTables, row_of}
use Rattle.sv_effect.specs.TablesOfCut.{is_place}
use Rattle.sv_effect.specs.BareTables.{bare_row, bare}
use Rattle.sv_effect.specs.Agrees.{place_at, seen_in, is_present, is_after, IsNextKey}
use Rattle.sv_effect.specs.RowsFit.{KeyIsOf, TablesAreOf}
use Rattle.sv_effect.proofs.SourceLaws.{seen_at-bare}
use Rattle.sv_store.specs.declared.rows.KeptRow.{KeptRow}
use Rattle.sv_store.specs.Stored.{entry_of, tables_in, AreRising, IsAt, IsGapFor}
use Rattle.sv_store.specs.Rest.{is_in_rest, rest_of, is_behind, IsStart, first_present}
use Rattle.sv_store.proofs.RowLaws.{find_gap}

-- whether a row is present among rows
abbrev present_among : ℕ → List KeptRow → Key → Bool
present_among table rows key = (seen_in (option_map bare_row (find place_cmp (place_at table key) (map entry_of rows)))).present

abbrev IsNextBy : (Key → Bool) → Option Key → Option Key → Type 0
IsNextBy p after None = (key : Key) → is_after after key ≡ true → p key ≡ false
IsNextBy p after (Some next) = (is_after after next ≡ true) × (p next ≡ true) × ((key : Key) → is_after after key ≡ true → is_lt (key_cmp key next) ≡ true → p key ≡ false)

next_along : (p q : Key → Bool) (after next : Option Key) → ((key : Key) → is_after after key ≡ true → q key ≡ p key) → IsNextBy p after next → IsNextBy q after next
next_along p q after None same h = λ key a. same key a ∙ h key a
next_along p q after (Some next) same h = (h.0, same next h.0 ∙ h.1, λ key a l. same key a ∙ h.2 key a l)

lower : (o : Ordering) → is_lt o ≡ true → o ≡ Less
lower Less e = refl
lower Equal e = absurd cc
lower Greater e = absurd cc

not_lower : (o : Ordering) → is_eq o ≡ true → is_lt o ≡ false
not_lower Less e = absurd cc
not_lower Equal e = refl
not_lower Greater e = absurd cc

apart_from : (p q : Place) (o : Ordering) → place_cmp p q ≡ o → (o ≡ Equal → ⊥) → is_place p q ≡ false
apart_from p q Less e d = ap is_eq e
apart_from p q Equal e d = absurd (d refl)
apart_from p q Greater e d = ap is_eq e

same_number : (a b : ℕ) → (a == b) ≡ true → a ≡ b
same_number a b e = grind (arith, nat_tests)

not_below_itself : (a b : ℕ) → (a == b) ≡ true → nat_lt b a ≡ false
not_below_itself a b e = grind (arith, nat_tests)

-- a place of a later table comes later
later_table : (table : ℕ) (key : Key) (p : Place) → nat_lt table p.table ≡ true → place_cmp (place_at table key) p ≡ Less
later_table table key p lt = rw first refl
  where
    first : nat_cmp table p.table ≡ Less
    first = grind (arith, nat_tests)

-- places of one table are in the order of their keys
in_table : (table : ℕ) (key : Key) (p : Place) → (p.table == table) ≡ true → place_cmp (place_at table key) p ≡ key_cmp key p.key
in_table table key p is = rw first refl
  where
    first : nat_cmp table p.table ≡ Equal
    first = grind (arith, nat_tests)

other_table : (table n : ℕ) (a : Bool) → (n == table) ≡ false → (nat_lt table n || (n == table && a)) ≡ true → nat_lt table n ≡ true
other_table table n a other behind = split (nat_lt table n) (n == table) other behind
  where
    split : (x y : Bool) → y ≡ false → (x || (y && a)) ≡ true → x ≡ true
    split true y e h = refl
    split false true e h = absurd cc
    split false false e h = absurd cc

own_table : (table n : ℕ) (a : Bool) → (n == table) ≡ true → (nat_lt table n || (n == table && a)) ≡ true → a ≡ true
own_table table n a own behind = split (nat_lt table n) (n == table) (not_below_itself n table own) own behind
  where
    split : (x y : Bool) → x ≡ false → y ≡ true → (x || (y && a)) ≡ true → a ≡ true
    split true y e d h = absurd cc
    split false true e d h = h
    split false false e d h = absurd cc

rising_rest : (x : KeptRow) (rows : List KeptRow) → AreRising (x ∷ rows) → AreRising rows
rising_rest x rows rising i j a b lt at_i at_j = rising (suc i) (suc j) a b (omega (arith, lt)) at_i at_j

same_kept : (a b : KeptRow) → Some a ≡ Some b → a ≡ b
same_kept a b e = cc

-- a place before the first of rising rows is that of none
none_before : (p : Place) (x : KeptRow) (rows : List KeptRow) → AreRising (x ∷ rows) → place_cmp p x.place ≡ Less → find place_cmp p (map entry_of (x ∷ rows)) ≡ None
none_before p x rows rising less = find_gap (x ∷ rows) p apart
  where
    apart : (i : ℕ) (row : KeptRow) → slice_get (x ∷ rows) i ≡ Some row → is_place p row.place ≡ false
    apart zero row at = subst (λ r. is_place p r.place ≡ false) (same_kept x row at) (ap is_eq less)
    apart (suc i) row at = ap is_eq (place_total.trans p x.place row.place less (rising 0 (suc i) x row (omega arith) refl at))

-- the first row's place is that of none behind it
none_behind : (x : KeptRow) (rows : List KeptRow) → AreRising (x ∷ rows) → find place_cmp x.place (map entry_of rows) ≡ None
none_behind x rows rising = find_gap rows x.place (λ i row at. ap is_eq (rising 0 (suc i) x row (omega arith) refl at))

-- the first present row along rows behind a key has the next key
next_in : (table : ℕ) (after : Option Key) (rows : List KeptRow) → AreRising rows → ((i : ℕ) (row : KeptRow) → slice_get rows i ≡ Some row → is_behind table after row.place ≡ true)
    → IsNextBy (present_among table rows) after (first_present table rows)
next_in table after [] rising behind = λ key a. refl
next_in table after (x ∷ rows) rising behind =
    split (x.place.table == table) x.row.mark refl refl (next_in table after rows (rising_rest x rows rising) (λ i row at. behind (suc i) row at))
  where
    far : (x.place.table == table) ≡ false → (key : Key) → is_after after key ≡ true → present_among table (x ∷ rows) key ≡ false
    far other key a = ap (λ o. (seen_in (option_map bare_row o)).present)
        (none_before (place_at table key) x rows rising (later_table table key x.place (other_table table x.place.table (is_after after x.place.key) other (behind 0 x refl))))

    is_first : (x.place.table == table) ≡ true → is_place (place_at table x.place.key) x.place ≡ true
    is_first own = ap is_eq (in_table table x.place.key x.place own) ∙ (eq_by_cmp_equiv key_total).refl x.place.key

    found : (x.place.table == table) ≡ true → x.row.mark ≡ true → present_among table (x ∷ rows) x.place.key ≡ true
    found own mark = ap (λ b. (seen_in (option_map bare_row (cond b (Some (row_of x.row)) (find place_cmp (place_at table x.place.key) (map entry_of rows))))).present) (is_first own) ∙ mark

    less : (x.place.table == table) ≡ true → (key : Key) → is_lt (key_cmp key x.place.key) ≡ true → present_among table (x ∷ rows) key ≡ false
    less own key lt = ap (λ o. (seen_in (option_map bare_row o)).present)
        (none_before (place_at table key) x rows rising (in_table table key x.place own ∙ lower (key_cmp key x.place.key) lt))

    past : x.row.mark ≡ false → (key : Key) → present_among table (x ∷ rows) key ≡ present_among table rows key
    past mark key = either (is_place (place_at table key) x.place) refl
      where
        either : (b : Bool) → is_place (place_at table key) x.place ≡ b
            → (seen_in (option_map bare_row (cond b (Some (row_of x.row)) (find place_cmp (place_at table key) (map entry_of rows))))).present ≡ present_among table rows key
        either true is =
            let same : place_at table key ≡ x.place = tells_apart exact_places (place_at table key) x.place is in
            mark ∙ sym (ap (λ p. (seen_in (option_map bare_row (find place_cmp p (map entry_of rows)))).present) same ∙ ap (λ o. (seen_in (option_map bare_row o)).present) (none_behind x rows rising))
        either false is = refl

    split : (b m : Bool) → (x.place.table == table) ≡ b → x.row.mark ≡ m → IsNextBy (present_among table rows) after (first_present table rows)
        → IsNextBy (present_among table (x ∷ rows)) after (if b then if m then Some x.place.key else first_present table rows else None)
    split false m other mark ih = far other
    split true true own mark ih = (own_table table x.place.table (is_after after x.place.key) own (behind 0 x refl), found own mark, λ key a lt. less own key lt)
    split true false own mark ih = next_along (present_among table rows) (present_among table (x ∷ rows)) after (first_present table rows) (λ key a. past mark key) ih

pub get_drop : {A : Type 0} (rows : List A) (at i : ℕ) → slice_get (drop at rows) i ≡ slice_get rows (at + i)
get_drop rows zero i = let n : i ≡ (0 + i) = omega arith in ap (slice_get rows) n
get_drop [] (suc at) i = refl
get_drop (x ∷ rows) (suc at) i = let n : suc (at + i) ≡ (suc at + i) = omega arith in get_drop rows at i ∙ ap (slice_get (x ∷ rows)) n

-- rows that aren't at a place may be left out
find_drop : (p : Place) (rows : List KeptRow) (at : ℕ) → ((i : ℕ) (row : KeptRow) → i < at → slice_get rows i ≡ Some row → is_place p row.place ≡ false)
    → find place_cmp p (map entry_of rows) ≡ find place_cmp p (map entry_of (drop at rows))
find_drop p rows zero apart = refl
find_drop p [] (suc at) apart = refl
find_drop p (x ∷ rows) (suc at) apart = rw (apart 0 x (omega arith) refl) (find_drop p rows at (λ i row lt get. apart (suc i) row (omega (arith, lt)) get))

rising_drop : (rows : List KeptRow) (at : ℕ) → AreRising rows → AreRising (drop at rows)
rising_drop rows at rising i j a b lt at_i at_j = rising (at + i) (at + j) a b (omega (arith, lt)) (sym (get_drop rows at i) ∙ at_i) (sym (get_drop rows at j) ∙ at_j)

-- a look along the rows from their start finds the next key
pub next_found : (rows : List KeptRow) (table : ℕ) (after : Option Key) (at : ℕ) → AreRising rows → IsStart rows table after at
    → IsNextKey (bare (tables_in rows)) table after (first_present table (drop at rows))
next_found rows table after at rising start =
    as_next (first_present table (drop at rows))
    (next_along (present_among table (drop at rows)) (is_present (bare (tables_in rows)) table) after (first_present table (drop at rows)) same
    (next_in table after (drop at rows) (rising_drop rows at rising) (λ i row get. start.behind (at + i) row (omega arith) (sym (get_drop rows at i) ∙ get))))
  where
    as_next : (next : Option Key) → IsNextBy (is_present (bare (tables_in rows)) table) after next → IsNextKey (bare (tables_in rows)) table after next
    as_next None h = h
    as_next (Some next) h = h

    here : (key : Key) → is_after after key ≡ true → is_behind table after (place_at table key) ≡ true
    here key a = rw a (own (nat_lt table table) (table == table) same_table)
      where
        same_table : (table == table) ≡ true
        same_table = grind (arith, nat_tests)

        own : (x y : Bool) → y ≡ true → (x || (y && true)) ≡ true
        own true y e = refl
        own false true e = refl
        own false false e = absurd cc

    same : (key : Key) → is_after after key ≡ true → is_present (bare (tables_in rows)) table key ≡ present_among table (drop at rows) key
    same key a =
        ap (λ s. s.present) (seen_at-bare (tables_in rows) (place_at table key))
        ∙ ap (λ o. (seen_in (option_map bare_row o)).present) (get-from_entries place_total (map entry_of rows) (place_at table key)
        ∙ find_drop (place_at table key) rows at (λ i row lt get. apart (is_place (place_at table key) row.place) row.place refl (start.before i row lt get)))
      where
        apart : (b : Bool) (p : Place) → is_place (place_at table key) p ≡ b → is_behind table after p ≡ false → b ≡ false
        apart true p is before =
            let at_p : place_at table key ≡ p = tells_apart exact_places (place_at table key) p is in
            let behind : is_behind table after p ≡ true = subst (λ q. is_behind table after q ≡ true) at_p (here key a) in
            absurd cc
        apart false p is before = refl

-- a row that is present is kept
record IsKept (t : StampedTables) (place : Place) : Type 0 where
  row : StampedRow
  stands : get t place ≡ Some row

kept_at : (t : StampedTables) (table : ℕ) (key : Key) → is_present (bare t) table key ≡ true → IsKept t (place_at table key)
kept_at t table key there = from (get t (place_at table key)) refl (sym (ap (λ s. s.present) (seen_at-bare t (place_at table key))) ∙ there)
  where
    from : (o : Option StampedRow) → get t (place_at table key) ≡ o → (seen_in (option_map bare_row o)).present ≡ true → IsKept t (place_at table key)
    from None is e = absurd cc
    from (Some row) is e = record { row = row; stands = is }

-- the next key is one of the table
pub next_fits : (t : StampedTables) (table : ℕ) (after next : Option Key) → IsNextKey (bare t) table after next
    → IfSome next (λ key. (schema : List Declaration) → TablesAreOf schema t → KeyIsOf schema (place_at table key))
next_fits t table after None is = tt
next_fits t table after (Some key) is = λ schema of. let kept = kept_at t table key is.1 in (of.rows (place_at table key) kept.row kept.stands).stands.key

-- fewer pass a narrower test, if one is left out
fewer : (p q : Place → Bool) → ((x : Place) → p x ≡ true → q x ≡ true) → (es : List (Place × StampedRow)) → length (filter (λ e. p e.0) es) ≤ length (filter (λ e. q e.0) es)
fewer p q narrower [] = omega arith
fewer p q narrower (e ∷ es) = split (p e.0) (q e.0) (narrower e.0) (fewer p q narrower es)
  where
    split : (a b : Bool) → (a ≡ true → b ≡ true) → length (filter (λ x. p x.0) es) ≤ length (filter (λ x. q x.0) es)
        → length (cond a (e ∷ filter (λ x. p x.0) es) (filter (λ x. p x.0) es)) ≤ length (cond b (e ∷ filter (λ x. q x.0) es) (filter (λ x. q x.0) es))
    split true true h le = omega (arith, le)
    split true false h le = absurd (let e : false ≡ true = h refl in cc)
    split false true h le = omega (arith, le)
    split false false h le = le

one_fewer : (p q : Place → Bool) → ((x : Place) → p x ≡ true → q x ≡ true) → (place : Place) (row : StampedRow) → p place ≡ false → q place ≡ true → (es : List (Place × StampedRow))
    → find place_cmp place es ≡ Some row → length (filter (λ e. p e.0) es) < length (filter (λ e. q e.0) es)
one_fewer p q narrower place row out among [] found = absurd cc
one_fewer p q narrower place row out among (e ∷ es) found = split (is_place place e.0) refl found (λ later. one_fewer p q narrower place row out among es later)
  where
    here : is_place place e.0 ≡ true → length (filter (λ x. p x.0) (e ∷ es)) < length (filter (λ x. q x.0) (e ∷ es))
    here is =
        let same : place ≡ e.0 = tells_apart exact_places place e.0 is in
        counted (p e.0) (q e.0) (ap p (sym same) ∙ out) (ap q (sym same) ∙ among) (fewer p q narrower es)
      where
        counted : (a b : Bool) → a ≡ false → b ≡ true → length (filter (λ x. p x.0) es) ≤ length (filter (λ x. q x.0) es)
            → length (cond a (e ∷ filter (λ x. p x.0) es) (filter (λ x. p x.0) es)) < length (cond b (e ∷ filter (λ x. q x.0) es) (filter (λ x. q x.0) es))
        counted true b x y le = absurd cc
        counted false true x y le = omega (arith, le)
        counted false false x y le = absurd cc

    past : (a b : Bool) → (a ≡ true → b ≡ true) → length (filter (λ x. p x.0) es) < length (filter (λ x. q x.0) es)
        → length (cond a (e ∷ filter (λ x. p x.0) es) (filter (λ x. p x.0) es)) < length (cond b (e ∷ filter (λ x. q x.0) es) (filter (λ x. q x.0) es))
    past true true h lt = omega (arith, lt)
    past true false h lt = absurd (let x : false ≡ true = h refl in cc)
    past false true h lt = omega (arith, lt)
    past false false h lt = lt

    split : (b : Bool) → is_place place e.0 ≡ b → cond b (Some e.1) (find place_cmp place es) ≡ Some row
        → (find place_cmp place es ≡ Some row → length (filter (λ x. p x.0) es) < length (filter (λ x. q x.0) es))
        → length (filter (λ x. p x.0) (e ∷ es)) < length (filter (λ x. q x.0) (e ∷ es))
    split true is found ih = here is
    split false is found ih = past (p e.0) (q e.0) (narrower e.0) (ih found)

both_true : (a b : Bool) → (a && b) ≡ true → (a ≡ true) × (b ≡ true)
both_true true b e = (refl, e)
both_true false b e = absurd cc

-- what comes behind a later key comes behind the earlier one
later : (after : Option Key) (key other : Key) → is_after after key ≡ true → is_lt (key_cmp key other) ≡ true → is_after after other ≡ true
later None key other a lt = refl
later (Some first) key other a lt = ap is_lt (key_total.trans first key other (lower (key_cmp first key) a) (lower (key_cmp key other) lt))

-- fewer rows are behind the next key
pub next_falls : (t : StampedTables) (table : ℕ) (after next : Option Key) → IsNextKey (bare t) table after next
    → IfSome next (λ key. rest_of t table (Some key) < rest_of t table after)
next_falls t table after None is = tt
next_falls t table after (Some key) is =
    let kept = kept_at t table key is.1 in
    one_fewer (is_in_rest table (Some key)) (is_in_rest table after) narrower (place_at table key) kept.row out among (entries t) (sym (get-entries t (place_at table key)) ∙ kept.stands)
  where
    narrower : (p : Place) → is_in_rest table (Some key) p ≡ true → is_in_rest table after p ≡ true
    narrower p in_rest = let parts = both_true (p.table == table) (is_lt (key_cmp key p.key)) in_rest in rw parts.0 (later after key p.key is.0 parts.1)

    same_table : (table == table) ≡ true
    same_table = grind (arith, nat_tests)

    out : is_in_rest table (Some key) (place_at table key) ≡ false
    out = rw same_table (not_lower (key_cmp key key) ((eq_by_cmp_equiv key_total).refl key))

    among : is_in_rest table after (place_at table key) ≡ true
    among = rw same_table is.0

-- the next key comes after the one before it
pub next_rises : (t : StampedTables) (table : ℕ) (after next : Option Key) → IsNextKey (bare t) table after next → IfSome next (λ key. is_after after key ≡ true)
next_rises t table after None is = tt
next_rises t table after (Some key) is = is.0

pub less_is_not : (a b : ℕ) (o : Ordering) → ordering_then (nat_cmp b a) o ≡ Less → (nat_lt a b || (b == a && is_lt (ordering_reverse o))) ≡ false
less_is_not a b Less e = grind (arith, nat_tests)
less_is_not a b Equal e = grind (arith, nat_tests)
less_is_not a b Greater e = grind (arith, nat_tests)

pub equal_is_not : (a b : ℕ) (o : Ordering) → ordering_then (nat_cmp b a) o ≡ Equal → (nat_lt a b || (b == a && is_lt (ordering_reverse o))) ≡ false
equal_is_not a b Less e = grind (arith, nat_tests)
equal_is_not a b Equal e = grind (arith, nat_tests)
equal_is_not a b Greater e = grind (arith, nat_tests)

pub greater_is : (a b : ℕ) (o : Ordering) → ordering_then (nat_cmp b a) o ≡ Greater → (nat_lt a b || (b == a && is_lt (ordering_reverse o))) ≡ true
greater_is a b Less e = grind (arith, nat_tests)
greater_is a b Equal e = grind (arith, nat_tests)
greater_is a b Greater e = grind (arith, nat_tests)

pub by_order : (table : ℕ) (key : Key) (p : Place) → is_behind table (Some key) p ≡ (nat_lt table p.table || (p.table == table && is_lt (ordering_reverse (key_cmp p.key key))))
by_order table key p = ap (λ o. nat_lt table p.table || (p.table == table && is_lt o)) (key_total.antisymm key p.key)

-- the rows behind a place that stands, and behind the gap for one that doesn't
pub start_at : (rows : List KeptRow) (table : ℕ) (key : Key) (at : ℕ) → AreRising rows → IsAt rows (place_at table key) at → IsStart rows table (Some key) (at + 1)
start_at rows table key at rising is_at = record {
  within = omega (arith, slice_get_within rows at is_at.row is_at.stands);
  before = λ i row lt get. before i row (cases_eq i at) lt get;
  behind = λ i row le get. by_order table key row.place ∙ greater_is table row.place.table (key_cmp row.place.key key) (above row (rising at i is_at.row row (omega (arith, le)) is_at.stands get));
}
  where
    above : (row : KeptRow) → place_cmp is_at.row.place row.place ≡ Less → place_cmp row.place (place_at table key) ≡ Greater
    above row less = subst (λ p. place_cmp row.place p ≡ Greater) is_at.is (place_total.antisymm row.place is_at.row.place ∙ ap ordering_reverse less)

    before : (i : ℕ) (row : KeptRow) → (i ≡ at) ⊎ (i ≡ at → ⊥) → i < at + 1 → slice_get rows i ≡ Some row → is_behind table (Some key) row.place ≡ false
    before i row (inl same) lt get =
        let is : row ≡ is_at.row = same_kept row is_at.row (sym get ∙ ap (slice_get rows) same ∙ is_at.stands) in
        let tie : place_cmp row.place (place_at table key) ≡ Equal = ap (λ p. place_cmp p (place_at table key)) (ap (λ r. r.place) is ∙ is_at.is) ∙ tied (place_at table key) in
        by_order table key row.place ∙ equal_is_not table row.place.table (key_cmp row.place.key key) tie
      where
        tied : (p : Place) → place_cmp p p ≡ Equal
        tied p = equal (place_cmp p p) ((eq_by_cmp_equiv place_total).refl p)
          where
            equal : (o : Ordering) → is_eq o ≡ true → o ≡ Equal
            equal Less e = absurd cc
            equal Equal e = refl
            equal Greater e = absurd cc
    before i row (inr apart) lt get =
        by_order table key row.place
        ∙ less_is_not table row.place.table (key_cmp row.place.key key) (subst (λ p. place_cmp row.place p ≡ Less) is_at.is (rising i at row is_at.row (omega (arith, lt, apart)) get is_at.stands))

pub start_gap : (rows : List KeptRow) (table : ℕ) (key : Key) (at : ℕ) → IsGapFor rows (place_at table key) at → IsStart rows table (Some key) at
start_gap rows table key at gap = record {
  within = gap.within;
  before = λ i row lt get. by_order table key row.place ∙ less_is_not table row.place.table (key_cmp row.place.key key) (gap.lower i row lt get);
  behind = λ i row le get. by_order table key row.place ∙ greater_is table row.place.table (key_cmp row.place.key key) (gap.greater i row le get);
}

-- the rows of tables before this one stand first
pub tables_rise : (rows : List KeptRow) → AreRising rows → IsNonDecreasingBy (λ row. row.place.table) rows
tables_rise [] rising = λ i j d le lt. absurd (omega (arith, lt))
tables_rise (x ∷ rows) rising = IsNonDecreasingBy-from_default (λ row. row.place.table) (x ∷ rows) x (λ i j le lt. rise i j le lt (cases_eq i j))
  where
    below : (a b : ℕ) (o : Ordering) → ordering_then (nat_cmp a b) o ≡ Less → a ≤ b
    below a b Less e = grind (arith, nat_tests)
    below a b Equal e = grind (arith, nat_tests)
    below a b Greater e = grind (arith, nat_tests)

    rise : (i j : ℕ) → i ≤ j → j < length (x ∷ rows) → (i ≡ j) ⊎ (i ≡ j → ⊥) → (get_or (x ∷ rows) i x).place.table ≤ (get_or (x ∷ rows) j x).place.table
    rise i j le lt (inl same) = subst (λ k. (get_or (x ∷ rows) i x).place.table ≤ (get_or (x ∷ rows) k x).place.table) same (omega arith)
    rise i j le lt (inr apart) =
        let a = get_or (x ∷ rows) i x in
        let b = get_or (x ∷ rows) j x in
        below a.place.table b.place.table (key_cmp a.place.key b.place.key)
        (rising i j a b (omega (arith, le, apart)) (slice_get-get_or (x ∷ rows) i x (omega (arith, le, lt))) (slice_get-get_or (x ∷ rows) j x lt))

pub start_table : (rows : List KeptRow) (table at : ℕ) → at ≤ length rows → IsPartitionPoint (λ row. nat_lt row.place.table table ≡ true) (λ row. nat_lt row.place.table table ≡ false) rows at → IsStart rows table None at
start_table rows table at within point = record {
  within = within;
  before = λ i row lt get. less row (subst (λ r. nat_lt r.place.table table ≡ true) (get_or_from_slice_get rows i row row get) (point.0 i row (omega arith) lt));
  behind = λ i row le get. not_less row (subst (λ r. nat_lt r.place.table table ≡ false) (get_or_from_slice_get rows i row row get) (point.1 i row le (slice_get_within rows i row get)));
}
  where
    less : (row : KeptRow) → nat_lt row.place.table table ≡ true → is_behind table None row.place ≡ false
    less row e = by row.place.table e
      where
        by : (n : ℕ) → nat_lt n table ≡ true → (nat_lt table n || (n == table && true)) ≡ false
        by n e = grind (arith, nat_tests)

    not_less : (row : KeptRow) → nat_lt row.place.table table ≡ false → is_behind table None row.place ≡ true
    not_less row e = by row.place.table e
      where
        by : (n : ℕ) → nat_lt n table ≡ false → (nat_lt table n || (n == table && true)) ≡ true
        by n e = grind (arith, nat_tests)

pub tables_part : (rows : List KeptRow) (table : ℕ) → AreRising rows → IsPartitionedBy (λ row. nat_lt row.place.table table) rows
tables_part rows table rising i j d le lt e = by (get_or rows i d).place.table (get_or rows j d).place.table (tables_rise rows rising i j d le lt) e
  where
    by : (a b : ℕ) → a ≤ b → nat_lt b table ≡ true → nat_lt a table ≡ true
    by a b le e = grind (arith, nat_tests)

-- a look along rows, from one of them on
looked : (table : ℕ) (rows : List KeptRow) (i : ℕ) (x : KeptRow) → i < length rows → x ≡ get_or rows i x
    → first_present table (drop i rows) ≡ (if x.place.table == table then if x.row.mark then Some x.place.key else first_present table (drop (i + 1) rows) else None)
looked table rows i x lt is =
    at_drop_more (first_present table) rows i x lt ∙ sym (ap (λ r. if r.place.table == table then if r.row.mark then Some r.place.key else first_present table (drop (i + 1) rows) else None) is)

pub look_other : (table : ℕ) (rows : List KeptRow) (i : ℕ) (x : KeptRow) → i < length rows → x ≡ get_or rows i x → (x.place.table == table) ≡ false → first_present table (drop i rows) ≡ None
look_other table rows i x lt is other = looked table rows i x lt is ∙ ap (λ b. if b then if x.row.mark then Some x.place.key else first_present table (drop (i + 1) rows) else None) other

pub look_found : (table : ℕ) (rows : List KeptRow) (i : ℕ) (x : KeptRow) → i < length rows → x ≡ get_or rows i x → (x.place.table == table) ≡ true → x.row.mark ≡ true
    → first_present table (drop i rows) ≡ Some x.place.key
look_found table rows i x lt is own mark = looked table rows i x lt is ∙ (λ k. if own k then if mark k then Some x.place.key else first_present table (drop (i + 1) rows) else None)

pub look_past : (table : ℕ) (rows : List KeptRow) (i : ℕ) (x : KeptRow) → i < length rows → x ≡ get_or rows i x → (x.place.table == table) ≡ true → x.row.mark ≡ false
    → first_present table (drop i rows) ≡ first_present table (drop (i + 1) rows)
look_past table rows i x lt is own mark = looked table rows i x lt is ∙ (λ k. if own k then if mark k then Some x.place.key else first_present table (drop (i + 1) rows) else None)

pub look_end : (table : ℕ) (rows : List KeptRow) (i : ℕ) → length rows ≤ i → first_present table (drop i rows) ≡ None
look_end table rows i le = at_drop_all (first_present table) rows i le

-- the rows from one on, up to the last
pub rest_all : (rows : List KeptRow) (at : ℕ) → take (length rows - at) (drop at rows) ≡ drop at rows
rest_all rows zero = take_all (length rows - 0) rows (omega arith)
rest_all [] (suc at) = let n : (0 - suc at) ≡ 0 = omega arith in ap (λ k. take {A = KeptRow} k []) n
rest_all (x ∷ rows) (suc at) = let n : (length (x ∷ rows) - suc at) ≡ (length rows - at) = omega arith in ap (λ k. take k (drop at rows)) n ∙ rest_all rows at
