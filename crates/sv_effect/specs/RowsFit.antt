-- Rows are of an application: each that is kept stands in one of its tables, under a key of that table, which its key
-- columns show, and has a value of its type for each column; sums of counters lie between -2^100 and 2^100, and other
-- integers are of 64 bits.
use Rattle.std.specs.Prelude.{◌≡◌, ℤ, pos, neg_ℤ, ◌^◌, ◌≤ℤ◌, ◌<ℤ◌, Bool, true, false, List, [], ◌∷◌, Some, slice_get}
use Rattle.std.specs.FinMap.{get}
use Rattle.std.specs.List.{Contains}
use Rattle.sv_value.specs.declared.values.Key.{Key}
use Rattle.sv_value.specs.declared.values.Val.{Val}
use Rattle.sv_app.specs.declared.apps.Ident.{Ident}
use Rattle.sv_app.specs.declared.gots.Got.{Got}
use Rattle.sv_app.specs.declared.gots.Got.TheVariants.{Num, Text as IsText}
use Rattle.sv_app.specs.declared.places.Place.{Place}
use Rattle.sv_app.specs.declared.schemas.Column.{Column}
use Rattle.sv_app.specs.declared.schemas.Merge.{Merge}
use Rattle.sv_app.specs.declared.schemas.Merge.TheVariants.{Plain, Lww, NumDelta, Fresh}
use Rattle.sv_app.specs.declared.schemas.Ty.TheVariants as types
use Rattle.sv_app.specs.Accepted.{AcceptedSchema}
use Rattle.sv_app.specs.Schema.{Declaration}
use Rattle.sv_app.specs.Tables.{Row}
use Rattle.sv_app.specs.Valid.{value_of}
use Rattle.sv_effect.specs.BareTables.{got_of, bare_row}
use Rattle.sv_effect.specs.Needs.{key_value}
use Rattle.sv_effect.specs.StampedTables.{StampedRow, StampedTables}
use Rattle.sv_effect.specs.RowChange.{key_values}
use Rattle.sv_effect.specs.Fits.{KeyFits, CellsFit, IsNarrow, CountsFit}
use Rattle.sv_effect.specs.Reads.{SeenValue}

-- an integer of 64 bits
abbrev pub IsWord : ℤ → Type 0
IsWord n = (neg_ℤ (pos (2 ^ 63)) ≤ℤ n) × (n <ℤ pos (2 ^ 63))

abbrev pub NumberFits : Merge → ℤ → Type 0
NumberFits NumDelta n = IsNarrow n
NumberFits Lww n = IsWord n
NumberFits Plain n = IsWord n
NumberFits Fresh n = IsWord n

-- a value of the column's type
abbrev pub GotFits : Column → Got → Type 0
GotFits column (Num n) = (column.ty ≡ types.Int) × NumberFits column.merge n
GotFits column (IsText text) = column.ty ≡ types.Text

abbrev pub GotsFit : List Column → List Got → Type 0
GotsFit [] [] = Unit {0}
GotsFit (column ∷ columns) (got ∷ gots) = GotFits column got × GotsFit columns gots
GotsFit _ _ = ⊥

-- the key is one of the table of that number
pub record KeyIsOf (schema : List Declaration) (place : Place) : Type 0 where
  pub table : Declaration
  pub declared : slice_get schema place.table ≡ Some table
  pub fits : KeyFits table.columns table.key (key_values place.key)

pub record ValuesAreOf (schema : List Declaration) (place : Place) (values : List Got) : Type 0 where
  pub key : KeyIsOf schema place
  pub fits : GotsFit key.table.columns values

-- what is answered of a row fits: values where it is kept, none where it isn't, and only a kept row is present
abbrev pub RowFits : List Declaration → Place → Bool → Bool → List Got → Type 0
RowFits schema place true present values = ValuesAreOf schema place values
RowFits schema place false present values = (present ≡ false) × (values ≡ [])

abbrev pub SeenFits : List Declaration → Place → SeenValue → Type 0
SeenFits schema place seen = RowFits schema place seen.kept seen.present seen.values

-- each key column has the value that the key gives it
abbrev pub HoldsKey : Declaration → Key → Row → Type 0
HoldsKey table key row =
    (column : Ident) (v : Val) → Contains (key_value table.key (key_values key) column.num) v → value_of row column ≡ got_of v

-- a row with its stamps stands in its table: under a key of the table, with a cell for each column, and it holds the key
pub record RowStands (schema : List Declaration) (place : Place) (row : StampedRow) : Type 0 where
  pub key : KeyIsOf schema place
  pub cells : CellsFit key.table.columns row.cells
  pub keyed : HoldsKey key.table place.key (bare_row row)

abbrev pub AllStand : List Declaration → StampedTables → Type 0
AllStand schema t = (place : Place) (row : StampedRow) → get t place ≡ Some row → RowStands schema place row

-- and its counts lie in their bounds
pub record RowIsOf (schema : List Declaration) (place : Place) (row : StampedRow) : Type 0 where
  pub stands : RowStands schema place row
  pub counts : CountsFit row.cells

-- the application is accepted, and each row is of it
pub record TablesAreOf (schema : List Declaration) (t : StampedTables) : Type 0 where
  pub accepted : AcceptedSchema schema
  pub rows : (place : Place) (row : StampedRow) → get t place ≡ Some row → RowIsOf schema place row
