-- The least key of which something holds, the keys at which a rule is broken after changes, and among which keys these are.
use Rattle.std.specs.Prelude.{◌≡◌, ℕ, ◌==◌, ◌&&◌, not, Bool, true, false, List, Option, Some, None, slice_get, if◌then◌else◌}
use Rattle.std.specs.List.{list_any}
use Rattle.std.specs.FinMap.{get}
use Rattle.std.specs.Ordering.{is_lt, eq_by_cmp}
use Rattle.sv_value.specs.declared.values.Key.{Key}
use Rattle.sv_value.specs.Orders.{key_cmp}
use Rattle.sv_app.specs.declared.places.Place.{Place}
use Rattle.sv_app.specs.Kinds.{is_grow_only}
use Rattle.sv_app.specs.Schema.{Rule, Bound, OneOf, Different, Refers, Declaration}
use Rattle.sv_app.specs.Tables.{Row, Tables}
use Rattle.sv_app.specs.Valid.{place_at, IsKept, Holds, Valid}
use Rattle.sv_effect.specs.declared.left.LeftRow.{LeftRow}
use Rattle.sv_effect.specs.Agrees.{is_present}
use Rattle.sv_effect.specs.Overlays.{over}
use Rattle.sv_check.specs.Left.{is_left}

abbrev pub IsLeast : (Key → Type 0) → Option Key → Type 0
IsLeast P None = (key : Key) → P key → ⊥
IsLeast P (Some key) = P key × ((other : Key) → P other → is_lt (key_cmp other key) ≡ false)

abbrev pub lesser : Option Key → Option Key → Option Key
lesser None other = other
lesser (Some key) None = Some key
lesser (Some key) (Some other) = if is_lt (key_cmp other key) then Some other else Some key

-- what a test says of a fact
abbrev pub Says : Bool → Type 0 → Type 0
Says true P = P
Says false P = P → ⊥

pub record BrokenAt (schema : List Declaration) (t : Tables) (table : ℕ) (rule : Rule) (key : Key) : Type 0 where
  pub row : Row
  pub kept : IsKept t table key row
  pub breaks : Holds schema t table rule key row → ⊥

-- the tables before the changes are valid, and after them each kept row of a grow-only table is present
pub record IsAfter (schema : List Declaration) (left : List (Place × LeftRow)) (t : Tables) : Type 0 where
  pub valid : Valid schema t
  pub grown : (table : ℕ) (declaration : Declaration) (key : Key) (row : Row) → slice_get schema table ≡ Some declaration → is_grow_only declaration.kind ≡ true
      → IsKept (over left t) table key row → row.present ≡ true

abbrev pub has_key : Key → List Key → Bool
has_key key keys = list_any (eq_by_cmp key_cmp key) keys

-- the keys of the rows that changes left are among these; and where the table was walked, those of the rows that were present
pub record AreCandidates (walked : Bool) (left : List (Place × LeftRow)) (table : ℕ) (keys : List Key) (t : Tables) : Type 0 where
  pub changed : (key : Key) → is_left (place_at table key) left ≡ true → has_key key keys ≡ true
  pub present : walked ≡ true → (key : Key) → is_present t table key ≡ true → has_key key keys ≡ true

-- a rule that doesn't compare rows
abbrev pub IsOwn : Rule → Type 0
IsOwn (Different column) = ⊥
IsOwn (Bound check) = Unit {0}
IsOwn (OneOf column texts) = Unit {0}
IsOwn (Refers column parent target) = Unit {0}

-- whether changes left a row of the table that isn't present
abbrev pub has_absent : List (Place × LeftRow) → ℕ → Bool
has_absent left table = list_any (λ e. e.0.table == table && not e.1.present) left

-- what is said of the row that stands at a place after the changes, and of the place
abbrev pub RowSays : List Declaration → List (Place × LeftRow) → Place → Row → Rule → Bool → Tables → Type 0
RowSays schema left place row rule breaks t = IsAfter schema left t → get (over left t) place ≡ Some row → Says breaks (Holds schema (over left t) place.table rule place.key row → ⊥)

abbrev pub PlaceSays : List Declaration → List (Place × LeftRow) → Place → Rule → Bool → Tables → Type 0
PlaceSays schema left place rule broken t = IsAfter schema left t → Says broken (BrokenAt schema (over left t) place.table rule place.key)

-- the least of these keys at which the rule is broken, and the least of all
abbrev pub LeastAmong : List Declaration → List (Place × LeftRow) → ℕ → Rule → List Key → Option Key → Tables → Type 0
LeastAmong schema left table rule keys found t = IsAfter schema left t → IsLeast (λ key. (has_key key keys ≡ true) × BrokenAt schema (over left t) table rule key) found

abbrev pub LeastBroken : List Declaration → List (Place × LeftRow) → ℕ → Rule → Option Key → Tables → Type 0
LeastBroken schema left table rule found t = IsAfter schema left t → IsLeast (BrokenAt schema (over left t) table rule) found

-- whether changes left a row of the table
abbrev pub is_touched : List (Place × LeftRow) → ℕ → Bool
is_touched left table = list_any (λ e. e.0.table == table) left

-- whether rows that no change left may break the rule: another row may have their value, or the row that they refer to may be gone
abbrev pub walks : Rule → List (Place × LeftRow) → Bool
walks (Bound check) left = false
walks (OneOf column texts) left = false
walks (Different column) left = true
walks (Refers column parent target) left = has_absent left parent.num
