-- A search by halves among rows in the order of their places.
use Rattle.std.proofs.Common.{◌≡◌, ℕ, ◌+◌, ◌<◌, ◌≤◌, ◌==◌, ◌&&◌, ◌||◌, nat_lt, Bool, true, false, List, length, Option, Some, None, slice_get, refl, sym, ap, subst, ◌∙◌, arith, ◌⊎◌, inl, inr}
use Rattle.std.specs.declared.cmp.Ordering.{Ordering}
use Rattle.std.specs.declared.cmp.Ordering.TheVariants.{Less, Equal, Greater}
use Rattle.std.specs.Ordering.{nat_cmp, ordering_then, ordering_reverse}
use Rattle.std.proofs.lemmas.Bool.{cases_eq}
use Rattle.std.proofs.lemmas.Bool.Decides.{nat_tests}
use Rattle.std.proofs.lemmas.Option.{slice_get_within}
use Rattle.sv_value.specs.declared.values.Key.{Key}
use Rattle.sv_value.specs.Orders.{key_cmp}
use Rattle.sv_app.specs.declared.places.Place.{Place}
use Rattle.sv_app.specs.Tables.{place_cmp}
use Rattle.sv_app.proofs.PlaceLaws.{place_total}
use Rattle.sv_effect.specs.Agrees.{place_at}
use Rattle.sv_store.specs.declared.rows.KeptRow.{KeptRow}
use Rattle.sv_store.specs.Stored.{AreRising, IsGapFor}
use Rattle.sv_store.specs.Rest.{is_behind, IsStart}
use Rattle.sv_store.proofs.NextLaws.{less_is_not, equal_is_not, greater_is, by_order}
use Rattle.sv_pool.proofs.IndexLaws.{same_item}

-- what stands before the lower number is below, and what stands from the upper one on is above
pub record Sides (below above : Place → Type 0) (rows : List KeptRow) (low high : ℕ) : Type 0 where
  pub before : (i : ℕ) (row : KeptRow) → i < low → slice_get rows i ≡ Some row → below row.place
  pub behind : (i : ℕ) (row : KeptRow) → high ≤ i → slice_get rows i ≡ Some row → above row.place

pub sides_first : {below above : Place → Type 0} {rows : List KeptRow} {many : ℕ} → many ≡ length rows → Sides below above rows 0 many
sides_first {below} {above} {rows} {many} is = record {
  before = λ i row lt get. absurd (omega (arith, lt));
  behind = λ i row le get. absurd (omega (arith, le, is, slice_get_within rows i row get));
}

-- the row in the middle is below, and so is what stands before it
pub sides_raise : {below above : Place → Type 0} {rows : List KeptRow} {low high : ℕ} {row : KeptRow} (middle : ℕ) → AreRising rows
    → ((p q : Place) → place_cmp p q ≡ Less → below q → below p) → Sides below above rows low high → slice_get rows middle ≡ Some row → below row.place
    → Sides below above rows (middle + 1) high
sides_raise {below} {above} {rows} {low} {high} {row} middle rising down sides get is =
    record { before = λ i r lt get_r. from i r (cases_eq i middle) lt get_r; behind = sides.behind }
  where
    from : (i : ℕ) (r : KeptRow) → (i ≡ middle) ⊎ (i ≡ middle → ⊥) → i < middle + 1 → slice_get rows i ≡ Some r → below r.place
    from i r (inl same) lt get_r = subst (λ x. below x.place) (same_item row r (sym get ∙ ap (slice_get rows) (sym same) ∙ get_r)) is
    from i r (inr apart) lt get_r = down r.place row.place (rising i middle r row (omega (arith, lt, apart)) get_r get) is

-- the row in the middle is above, and so is what stands behind it
pub sides_lower : {below above : Place → Type 0} {rows : List KeptRow} {low high middle : ℕ} {row : KeptRow} → AreRising rows
    → ((p q : Place) → place_cmp p q ≡ Less → above p → above q) → Sides below above rows low high → slice_get rows middle ≡ Some row → above row.place
    → Sides below above rows low middle
sides_lower {below} {above} {rows} {low} {high} {middle} {row} rising up sides get is =
    record { before = sides.before; behind = λ i r le get_r. from i r (cases_eq i middle) le get_r }
  where
    from : (i : ℕ) (r : KeptRow) → (i ≡ middle) ⊎ (i ≡ middle → ⊥) → middle ≤ i → slice_get rows i ≡ Some r → above r.place
    from i r (inl same) le get_r = subst (λ x. above x.place) (same_item row r (sym get ∙ ap (slice_get rows) (sym same) ∙ get_r)) is
    from i r (inr apart) le get_r = up row.place r.place (rising middle i row r (omega (arith, le, apart)) get get_r) is

-- below and above a place
abbrev pub IsBelow : Place → Place → Type 0
IsBelow place p = place_cmp p place ≡ Less

abbrev pub IsAbove : Place → Place → Type 0
IsAbove place p = place_cmp p place ≡ Greater

less_from : (p q : Place) → place_cmp p q ≡ Greater → place_cmp q p ≡ Less
less_from p q more = place_total.antisymm q p ∙ ap ordering_reverse more

greater_from : (p q : Place) → place_cmp p q ≡ Less → place_cmp q p ≡ Greater
greater_from p q less = place_total.antisymm q p ∙ ap ordering_reverse less

pub below_down : (place p q : Place) → place_cmp p q ≡ Less → IsBelow place q → IsBelow place p
below_down place p q less is = place_total.trans p q place less is

pub above_up : (place p q : Place) → place_cmp p q ≡ Less → IsAbove place p → IsAbove place q
above_up place p q less is = greater_from place q (place_total.trans place p q (less_from p place is) less)

-- a search that ends without the place ends at the gap for it
pub gap_found : {rows : List KeptRow} {place : Place} {low high : ℕ} → high ≤ low → low ≤ length rows → Sides (IsBelow place) (IsAbove place) rows low high
    → IsGapFor rows place low
gap_found {rows} {place} {low} {high} le within sides =
    record { within = within; lower = sides.before; greater = λ i row from get. sides.behind i row (omega (arith, le, from)) get }

-- before and behind a key of a table
abbrev pub IsBefore : ℕ → Option Key → Place → Type 0
IsBefore table after p = is_behind table after p ≡ false

abbrev pub IsBehind : ℕ → Option Key → Place → Type 0
IsBehind table after p = is_behind table after p ≡ true

tables_rise : (a b : ℕ) (o : Ordering) → ordering_then (nat_cmp a b) o ≡ Less → a ≤ b
tables_rise a b Less e = grind (arith, nat_tests)
tables_rise a b Equal e = grind (arith, nat_tests)
tables_rise a b Greater e = grind (arith, nat_tests)

behind_table : (table a b : ℕ) → a ≤ b → (nat_lt table a || (a == table && true)) ≡ true → (nat_lt table b || (b == table && true)) ≡ true
behind_table table a b le is = grind (arith, nat_tests)

behind_place : (table : ℕ) (key : Key) (p : Place) → is_behind table (Some key) p ≡ true → place_cmp p (place_at table key) ≡ Greater
behind_place table key p is = from (place_cmp p (place_at table key)) refl
  where
    from : (o : Ordering) → place_cmp p (place_at table key) ≡ o → o ≡ Greater
    from Less e = absurd (let x : false ≡ true = sym (less_is_not table p.table (key_cmp p.key key) e) ∙ sym (by_order table key p) ∙ is in cc)
    from Equal e = absurd (let x : false ≡ true = sym (equal_is_not table p.table (key_cmp p.key key) e) ∙ sym (by_order table key p) ∙ is in cc)
    from Greater e = refl

pub behind_up : (table : ℕ) (after : Option Key) (p q : Place) → place_cmp p q ≡ Less → IsBehind table after p → IsBehind table after q
behind_up table None p q less is = behind_table table p.table q.table (tables_rise p.table q.table (key_cmp p.key q.key) less) is
behind_up table (Some key) p q less is =
    by_order table key q ∙ greater_is table q.table (key_cmp q.key key) (above_up (place_at table key) p q less (behind_place table key p is))

pub before_down : (table : ℕ) (after : Option Key) (p q : Place) → place_cmp p q ≡ Less → IsBefore table after q → IsBefore table after p
before_down table after p q less is = from (is_behind table after p) refl
  where
    from : (b : Bool) → is_behind table after p ≡ b → b ≡ false
    from true e = absurd (let x : true ≡ false = sym (behind_up table after p q less e) ∙ is in cc)
    from false e = refl

-- a search by halves ends where the rows behind the key begin
pub start_found : {rows : List KeptRow} {low high : ℕ} (table : ℕ) (after : Option Key) → high ≤ low → low ≤ length rows
    → Sides (IsBefore table after) (IsBehind table after) rows low high
    → IsStart rows table after low
start_found {rows} {low} {high} table after le within sides =
    record { within = within; before = sides.before; behind = λ i row from get. sides.behind i row (omega (arith, le, from)) get }
