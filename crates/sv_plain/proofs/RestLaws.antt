-- What the next key of a table is among the rows behind the one before it: of the table, later, and with fewer rows behind it.
use Rattle.std.proofs.Common.{◌≡◌, ℕ, zero, suc, ◌+◌, ◌<◌, ◌≤◌, ◌==◌, ◌&&◌, cond, Bool, true, false, List, [], ◌∷◌, length, Option, Some, None, refl, sym, ap, subst, ◌∙◌, arith}
use Rattle.std.specs.Prelude.{filter, IfSome}
use Rattle.std.specs.Option.{option_map}
use Rattle.std.specs.declared.cmp.Ordering.{Ordering}
use Rattle.std.specs.declared.cmp.Ordering.TheVariants.{Less, Equal, Greater}
use Rattle.std.specs.Ordering.{is_eq, is_lt}
use Rattle.std.specs.FinMap.{find, get, get-entries, entries}
use Rattle.std.proofs.lemmas.Bool.Decides.{nat_tests}
use Rattle.std.proofs.lemmas.Cmp.{eq_by_cmp_equiv}
use Rattle.std.proofs.lemmas.Map.Views.{tells_apart}
use Rattle.sv_value.specs.declared.values.Key.{Key}
use Rattle.sv_value.specs.Orders.{key_cmp}
use Rattle.sv_value.proofs.OrderLaws.{key_total}
use Rattle.sv_app.specs.declared.places.Place.{Place}
use Rattle.sv_app.specs.Schema.{Declaration}
use Rattle.sv_app.specs.Tables.{place_cmp}
use Rattle.sv_app.proofs.PlaceLaws.{exact_places}
use Rattle.sv_effect.specs.StampedTables.{StampedRow, StampedTables}
use Rattle.sv_effect.specs.TablesOfCut.{is_place}
use Rattle.sv_effect.specs.BareTables.{bare_row, bare}
use Rattle.sv_effect.specs.Agrees.{place_at, seen_in, is_present, is_after, IsNextKey}
use Rattle.sv_effect.specs.RowsFit.{KeyIsOf}
use Rattle.sv_effect.proofs.SourceLaws.{seen_at-bare}
use Rattle.sv_plain.specs.Stand.{TablesStand}
use Rattle.sv_plain.specs.Rest.{is_in_rest, rest_of}

pub lower : (o : Ordering) → is_lt o ≡ true → o ≡ Less
lower Less e = refl
lower Equal e = absurd cc
lower Greater e = absurd cc

pub not_lower : (o : Ordering) → is_eq o ≡ true → is_lt o ≡ false
not_lower Less e = absurd cc
not_lower Equal e = refl
not_lower Greater e = absurd cc

record IsKept (t : StampedTables) (place : Place) : Type 0 where
  row : StampedRow
  stands : get t place ≡ Some row

kept_at : (t : StampedTables) (table : ℕ) (key : Key) → is_present (bare t) table key ≡ true → IsKept t (place_at table key)
kept_at t table key there = from (get t (place_at table key)) refl (sym (ap (λ s. s.present) (seen_at-bare t (place_at table key))) ∙ there)
  where
    from : (o : Option StampedRow) → get t (place_at table key) ≡ o → (seen_in (option_map bare_row o)).present ≡ true → IsKept t (place_at table key)
    from None is e = absurd cc
    from (Some row) is e = record { row = row; stands = is }

-- the next key is one of the table
pub next_fits : (t : StampedTables) (table : ℕ) (after next : Option Key) → IsNextKey (bare t) table after next
    → IfSome next (λ key. (schema : List Declaration) → TablesStand schema t → KeyIsOf schema (place_at table key))
next_fits t table after None is = tt
next_fits t table after (Some key) is = λ schema of. let kept = kept_at t table key is.1 in (of.rows (place_at table key) kept.row kept.stands).key

-- fewer pass a narrower test, if one is left out
fewer : (p q : Place → Bool) → ((x : Place) → p x ≡ true → q x ≡ true) → (es : List (Place × StampedRow)) → length (filter (λ e. p e.0) es) ≤ length (filter (λ e. q e.0) es)
fewer p q narrower [] = omega arith
fewer p q narrower (e ∷ es) = split (p e.0) (q e.0) (narrower e.0) (fewer p q narrower es)
  where
    split : (a b : Bool) → (a ≡ true → b ≡ true) → length (filter (λ x. p x.0) es) ≤ length (filter (λ x. q x.0) es)
        → length (cond a (e ∷ filter (λ x. p x.0) es) (filter (λ x. p x.0) es)) ≤ length (cond b (e ∷ filter (λ x. q x.0) es) (filter (λ x. q x.0) es))
    split true true h le = omega (arith, le)
    split true false h le = absurd (let e : false ≡ true = h refl in cc)
    split false true h le = omega (arith, le)
    split false false h le = le

one_fewer : (p q : Place → Bool) → ((x : Place) → p x ≡ true → q x ≡ true) → (place : Place) (row : StampedRow) → p place ≡ false → q place ≡ true → (es : List (Place × StampedRow))
    → find place_cmp place es ≡ Some row → length (filter (λ e. p e.0) es) < length (filter (λ e. q e.0) es)
one_fewer p q narrower place row out among [] found = absurd cc
one_fewer p q narrower place row out among (e ∷ es) found = split (is_place place e.0) refl found (λ later. one_fewer p q narrower place row out among es later)
  where
    here : is_place place e.0 ≡ true → length (filter (λ x. p x.0) (e ∷ es)) < length (filter (λ x. q x.0) (e ∷ es))
    here is =
        let same : place ≡ e.0 = tells_apart exact_places place e.0 is in
        counted (p e.0) (q e.0) (ap p (sym same) ∙ out) (ap q (sym same) ∙ among) (fewer p q narrower es)
      where
        counted : (a b : Bool) → a ≡ false → b ≡ true → length (filter (λ x. p x.0) es) ≤ length (filter (λ x. q x.0) es)
            → length (cond a (e ∷ filter (λ x. p x.0) es) (filter (λ x. p x.0) es)) < length (cond b (e ∷ filter (λ x. q x.0) es) (filter (λ x. q x.0) es))
        counted true b x y le = absurd cc
        counted false true x y le = omega (arith, le)
        counted false false x y le = absurd cc

    past : (a b : Bool) → (a ≡ true → b ≡ true) → length (filter (λ x. p x.0) es) < length (filter (λ x. q x.0) es)
        → length (cond a (e ∷ filter (λ x. p x.0) es) (filter (λ x. p x.0) es)) < length (cond b (e ∷ filter (λ x. q x.0) es) (filter (λ x. q x.0) es))
    past true true h lt = omega (arith, lt)
    past true false h lt = absurd (let x : false ≡ true = h refl in cc)
    past false true h lt = omega (arith, lt)
    past false false h lt = lt

    split : (b : Bool) → is_place place e.0 ≡ b → cond b (Some e.1) (find place_cmp place es) ≡ Some row
        → (find place_cmp place es ≡ Some row → length (filter (λ x. p x.0) es) < length (filter (λ x. q x.0) es))
        → length (filter (λ x. p x.0) (e ∷ es)) < length (filter (λ x. q x.0) (e ∷ es))
    split true is found ih = here is
    split false is found ih = past (p e.0) (q e.0) (narrower e.0) (ih found)

both_true : (a b : Bool) → (a && b) ≡ true → (a ≡ true) × (b ≡ true)
both_true true b e = (refl, e)
both_true false b e = absurd cc

-- what comes behind a later key comes behind the earlier one
later : (after : Option Key) (key other : Key) → is_after after key ≡ true → is_lt (key_cmp key other) ≡ true → is_after after other ≡ true
later None key other a lt = refl
later (Some first) key other a lt = ap is_lt (key_total.trans first key other (lower (key_cmp first key) a) (lower (key_cmp key other) lt))

-- fewer rows are behind the next key
pub next_falls : (t : StampedTables) (table : ℕ) (after next : Option Key) → IsNextKey (bare t) table after next
    → IfSome next (λ key. rest_of t table (Some key) < rest_of t table after)
next_falls t table after None is = tt
next_falls t table after (Some key) is =
    let kept = kept_at t table key is.1 in
    one_fewer (is_in_rest table (Some key)) (is_in_rest table after) narrower (place_at table key) kept.row out among (entries t) (sym (get-entries t (place_at table key)) ∙ kept.stands)
  where
    narrower : (p : Place) → is_in_rest table (Some key) p ≡ true → is_in_rest table after p ≡ true
    narrower p in_rest = let parts = both_true (p.table == table) (is_lt (key_cmp key p.key)) in_rest in rw parts.0 (later after key p.key is.0 parts.1)

    same_table : (table == table) ≡ true
    same_table = grind (arith, nat_tests)

    out : is_in_rest table (Some key) (place_at table key) ≡ false
    out = rw same_table (not_lower (key_cmp key key) ((eq_by_cmp_equiv key_total).refl key))

    among : is_in_rest table after (place_at table key) ≡ true
    among = rw same_table is.0

-- the next key comes after the one before it
pub next_rises : (t : StampedTables) (table : ℕ) (after next : Option Key) → IsNextKey (bare t) table after next → IfSome next (λ key. is_after after key ≡ true)
next_rises t table after None is = tt
next_rises t table after (Some key) is = is.0
