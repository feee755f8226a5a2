-- How far numbers go: there is room for so many further writes, and integers that are no counters are of 64 bits.
use Rattle.std.specs.Prelude.{◌≡◌, ℕ, ◌-◌, ◌*◌, Bool, false, List, [], ◌∷◌, length, Option, Some, None, slice_get}
use Rattle.sv_app.specs.declared.gots.Got.{Got}
use Rattle.sv_app.specs.declared.places.Place.{Place}
use Rattle.sv_app.specs.Lookups.{holds_of}
use Rattle.sv_app.specs.Schema.{Declaration}
use Rattle.sv_app.specs.Tables.{Row}
use Rattle.sv_app.specs.Typing.{is_numdelta}
use Rattle.sv_effect.specs.declared.left.LeftRow.{LeftRow}
use Rattle.sv_effect.specs.Room.{HaveRoom}
use Rattle.sv_effect.specs.RunValues.{column}
use Rattle.sv_effect.specs.Words.{IsWordGot}

-- whether the column of that number is a counter
abbrev pub is_counter : Option Declaration → ℕ → Bool
is_counter None number = false
is_counter (Some table) number = holds_of (slice_get table.columns number) (λ column. is_numdelta column.merge)

-- the values of a row of the table
pub record AreBounded (table : Option Declaration) (writes : ℕ) (values : List Got) : Type 0 where
  pub room : HaveRoom writes values
  pub words : (number : ℕ) → is_counter table number ≡ false → IsWordGot (column values number)

abbrev pub IsBounded : List Declaration → ℕ → Place → Option Row → Type 0
IsBounded schema writes place None = Unit {0}
IsBounded schema writes place (Some row) = AreBounded (slice_get schema place.table) writes row.values

-- the rows that changes left
abbrev pub LeftBounded : List Declaration → ℕ → List (Place × LeftRow) → Type 0
LeftBounded schema writes [] = Unit {0}
LeftBounded schema writes (e ∷ es) = AreBounded (slice_get schema e.0.table) writes e.1.values × LeftBounded schema writes es

-- a change writes at most 16 columns; there is room for 64 changes together
abbrev pub ChangesBounded : List Declaration → List (Place × LeftRow) → Type 0
ChangesBounded schema left = LeftBounded schema (16 * (64 - length left)) left
