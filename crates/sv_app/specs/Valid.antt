-- Valid tables: each invariant holds at each kept row of its table, and each kept row of a grow-only table is present.
use Rattle.std.specs.Prelude.{◌≡◌, ◌⊎◌, ℕ, ◌<◌, ℤ, pos, ◌-ℤ◌, ◌≤ℤ◌, Bool, true, false, List, Option, Some, None, slice_get, unwrap_or}
use Rattle.std.specs.List.{Contains}
use Rattle.std.specs.Ordering.{is_lt}
use Rattle.std.specs.FinMap.{get}
use Rattle.sv_value.specs.declared.values.Key.{Key}
use Rattle.sv_value.specs.declared.values.Val.{Val}
use Rattle.sv_value.specs.declared.values.Val.TheVariants as vals
use Rattle.sv_value.specs.Orders.{key_cmp}
use Rattle.sv_app.specs.declared.apps.Ident.{Ident}
use Rattle.sv_app.specs.declared.gots.Got.{Got}
use Rattle.sv_app.specs.declared.gots.Got.TheVariants.{Num, Text}
use Rattle.sv_app.specs.declared.places.Place.{Place}
use Rattle.sv_app.specs.declared.schemas.Check.{Check}
use Rattle.sv_app.specs.Kinds.{is_grow_only}
use Rattle.sv_app.specs.Schema.{Rule, Bound, OneOf, Different, Refers, Invariant, Declaration}
use Rattle.sv_app.specs.Tables.{Row, Tables}

-- the value of a column; one that isn't there counts as zero
abbrev pub value_of : Row → Ident → Got
value_of row column = unwrap_or (slice_get row.values column.num) (Num (pos 0))

abbrev pub number_of : Got → ℤ
number_of (Num n) = n
number_of (Text text) = pos 0

-- a side of a check: a column, or zero where it is missing
abbrev pub side_of : Row → Option Ident → ℤ
side_of row None = pos 0
side_of row (Some column) = number_of (value_of row column)

abbrev pub Meets : Row → Check → Type 0
Meets row check = (side_of row check.hi -ℤ side_of row check.lo) ≤ℤ check.most

abbrev pub IsListed : Got → List (List ℕ) → Type 0
IsListed (Num n) texts = ⊥
IsListed (Text text) texts = Contains texts text

-- the key of one column that has this value
abbrev pub as_val : Got → Val
as_val (Num n) = vals.Int n
as_val (Text text) = vals.Text text

abbrev pub key_by : Got → Key
key_by got = record { first = as_val got; second = None }

abbrev pub place_at : ℕ → Key → Place
place_at table key = record { table = table; key = key }

abbrev pub IsKept : Tables → ℕ → Key → Row → Type 0
IsKept t table key row = get t (place_at table key) ≡ Some row

-- the row that stands there is present
pub record IsPresent (t : Tables) (table : ℕ) (key : Key) : Type 0 where
  pub row : Row
  pub kept : IsKept t table key row
  pub present : row.present ≡ true

-- no other present row has the value
abbrev pub IsAlone : Tables → ℕ → Ident → Key → Row → Type 0
IsAlone t table column key row = (other : Key) (with_it : Row) → IsKept t table other with_it → with_it.present ≡ true → value_of with_it column ≡ value_of row column → other ≡ key

-- a reference to a grow-only table binds each kept row, another one the present rows
abbrev pub Binds : Option Declaration → Bool → Type 0
Binds None present = ⊥
Binds (Some parent) present = (is_grow_only parent.kind ≡ true) ⊎ (present ≡ true)

-- what a rule of a table asks of the row that is kept under a key
abbrev pub Holds : List Declaration → Tables → ℕ → Rule → Key → Row → Type 0
Holds schema t table (Bound check) key row = Meets row check
Holds schema t table (OneOf column texts) key row = IsListed (value_of row column) texts
Holds schema t table (Different column) key row = row.present ≡ true → IsAlone t table column key row
Holds schema t table (Refers column parent target) key row = Binds (slice_get schema parent.num) row.present → IsPresent t parent.num (key_by (value_of row column))

-- an invariant of the schema, and the table that has it
pub record IsInvariant (schema : List Declaration) (table : ℕ) (inv : Invariant) : Type 0 where
  pub declaration : Declaration
  pub declared : slice_get schema table ≡ Some declaration
  pub among : Contains declaration.invs inv

pub record Valid (schema : List Declaration) (t : Tables) : Type 0 where
  pub invariants : (table : ℕ) (inv : Invariant) (key : Key) (row : Row) → IsInvariant schema table inv → IsKept t table key row → Holds schema t table inv.rule key row
  pub grown : (table : ℕ) (declaration : Declaration) (key : Key) (row : Row) → slice_get schema table ≡ Some declaration → is_grow_only declaration.kind ≡ true
      → IsKept t table key row → row.present ≡ true

-- the invariant of this number is broken at the row of this key
pub record IsBroken (schema : List Declaration) (t : Tables) (number : ℕ) (key : Key) : Type 0 where
  pub table : ℕ
  pub inv : Invariant
  pub row : Row
  pub declared : IsInvariant schema table inv
  pub named : inv.number ≡ number
  pub kept : IsKept t table key row
  pub breaks : Holds schema t table inv.rule key row → ⊥

-- the broken invariant of the lowest number, and the least key at which it is broken
pub record IsFirstBroken (schema : List Declaration) (t : Tables) (number : ℕ) (key : Key) : Type 0 where
  pub broken : IsBroken schema t number key
  pub first : (other : ℕ) (k : Key) → IsBroken schema t other k → (number < other) ⊎ ((number ≡ other) × (is_lt (key_cmp k key) ≡ false))
