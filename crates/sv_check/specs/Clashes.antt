-- Keys with values of a column, and keys that have a value which another has.
use Rattle.std.specs.Prelude.{◌≡◌, ℕ, pos, ◌&&◌, not, Bool, true, false, List, [], ◌∷◌, Option, Some, None, slice_get, if◌then◌else◌}
use Rattle.std.specs.List.{list_any, flat_map}
use Rattle.std.specs.declared.cmp.Ordering.{Ordering}
use Rattle.std.specs.Ordering.{int_cmp, int_eq, is_eq, eq_by_cmp, ordering_then}
use Rattle.std.specs.Option.{option_cmp}
use Rattle.std.specs.FinMap.{get}
use Rattle.sv_value.specs.declared.values.Key.{Key}
use Rattle.sv_value.specs.Orders.{text_cmp, key_cmp}
use Rattle.sv_app.specs.declared.apps.Ident.{Ident}
use Rattle.sv_app.specs.declared.gots.Got.{Got}
use Rattle.sv_app.specs.declared.gots.Got.TheVariants.{Num, Text}
use Rattle.sv_app.specs.Tables.{Row, Tables}
use Rattle.sv_app.specs.Valid.{value_of, place_at}
use Rattle.sv_check.specs.declared.clashes.Ordered.{Ordered}
use Rattle.sv_check.specs.Least.{lesser}

abbrev pub Pair : Type 0
Pair = Key × Got

abbrev pub same_got : Got → Got → Bool
same_got (Num n) (Num m) = int_eq n m
same_got (Text s) (Text t) = is_eq (text_cmp s t)
same_got (Num n) (Text t) = false
same_got (Text s) (Num m) = false

-- the value of a column, if the row is present
abbrev pub present_value : Ident → Option Row → Option Got
present_value column None = None
present_value column (Some row) = if row.present then Some (value_of row column) else None

-- the key with its value, if it has one
abbrev pub pair_of : Key → Option Got → List Pair
pair_of key None = []
pair_of key (Some value) = (key, value) ∷ []

-- a present row's key and value
abbrev pub values_of : Ident → Key → Option Row → List Pair
values_of column key None = []
values_of column key (Some row) = if row.present then (key, value_of row column) ∷ [] else []

-- of the rows at these keys
abbrev pub values_at : Tables → ℕ → Ident → List Key → List Pair
values_at t table column keys = flat_map (λ key. values_of column key (get t (place_at table key))) keys

abbrev pub has_other : Key → Got → List Pair → Bool
has_other key value pairs = list_any (λ p. same_got p.1 value && not (is_eq (key_cmp p.0 key))) pairs

-- one of the pairs has the key, and a value that another key has
pub record Clashes (pairs : List Pair) (key : Key) : Type 0 where
  pub number : ℕ
  pub value : Got
  pub at : slice_get pairs number ≡ Some (key, value)
  pub other : has_other key value pairs ≡ true

-- a value as the key of a map
abbrev pub in_order : Got → Ordered
in_order (Num n) = record { number = n; text = None }
in_order (Text t) = record { number = pos 0; text = Some t }

abbrev pub ordered_cmp : Ordered → Ordered → Ordering
ordered_cmp a b = ordering_then (int_cmp a.number b.number) (option_cmp text_cmp a.text b.text)

-- the key of the first pair with the value
abbrev pub first_with : Ordered → List Pair → Option Key
first_with value [] = None
first_with value (p ∷ pairs) = if eq_by_cmp ordered_cmp (in_order p.1) value then Some p.0 else first_with value pairs

-- the least of a key and of these two, unless they are one
abbrev pub with_both : Option Key → Key → Key → Option Key
with_both found first key = if is_eq (key_cmp first key) then found else lesser (lesser found (Some first)) (Some key)
