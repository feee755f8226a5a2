-- What contracts see of a store: its stamped tables, and how many further rows fit.
use Rattle.std.specs.Prelude.{◌≡◌, ℕ, ◌-◌, ◌<◌, ◌≤◌, ◌^◌, List, length, map, slice_get, Option, Some, None, refl}
use Rattle.std.specs.Coded.{Coded, code_by, coded×, coded_ℕ}
use Rattle.std.specs.declared.cmp.Ordering.TheVariants.{Less, Greater}
use Rattle.std.specs.FinMap.{get, insert, from_entries}
use Rattle.sv_app.specs.declared.places.Place.{Place}
use Rattle.sv_app.specs.Tables.{place_cmp}
use Rattle.sv_effect.specs.StampedTables.{StampedRow, StampedTables, row_of}
use Rattle.sv_store.specs.declared.rows.KeptRow.{KeptRow}
use Rattle.sv_store.specs.CodedTables.{coded_stamped}

pub record Stored : Type 0 where
  pub tables : StampedTables
  pub room : ℕ

abbrev pub coded_stored : Coded Stored
coded_stored = code_by (StampedTables × ℕ) (coded× coded_stamped coded_ℕ) (λ s. (s.tables, s.room)) (λ p. record { tables = p.0; room = p.1 }) (λ _. refl)

abbrev pub entry_of : KeptRow → Place × StampedRow
entry_of kept = (kept.place, row_of kept.row)

abbrev pub tables_in : List KeptRow → StampedTables
tables_in rows = from_entries (map entry_of rows)

-- rows in a space for so many
abbrev pub stored_in : List KeptRow → ℕ → Stored
stored_in rows capacity = record { tables = tables_in rows; room = capacity - length rows }

-- the places rise, so none comes twice
abbrev pub AreRising : List KeptRow → Type 0
AreRising rows = (i j : ℕ) (a b : KeptRow) → i < j → slice_get rows i ≡ Some a → slice_get rows j ≡ Some b → place_cmp a.place b.place ≡ Less

-- the room is a number of 32 bits
pub record Keeps (rows : List KeptRow) (capacity : ℕ) : Type 0 where
  pub rising : AreRising rows
  pub small : capacity < 2 ^ 32

-- the row at this number stands at the place
pub record IsAt (rows : List KeptRow) (place : Place) (at : ℕ) : Type 0 where
  pub row : KeptRow
  pub stands : slice_get rows at ≡ Some row
  pub is : row.place ≡ place

-- the place would go to this number: lower places before it, and greater ones from it on
pub record IsGapFor (rows : List KeptRow) (place : Place) (at : ℕ) : Type 0 where
  pub within : at ≤ length rows
  pub lower : (i : ℕ) (row : KeptRow) → i < at → slice_get rows i ≡ Some row → place_cmp row.place place ≡ Less
  pub greater : (i : ℕ) (row : KeptRow) → at ≤ i → slice_get rows i ≡ Some row → place_cmp row.place place ≡ Greater

-- a row that isn't kept yet takes room
abbrev pub room_after : Option StampedRow → ℕ → ℕ
room_after None room = room - 1
room_after (Some row) room = room

abbrev pub HasRoom : Option StampedRow → ℕ → Type 0
HasRoom None room = 1 ≤ room
HasRoom (Some row) room = Unit {0}

-- a row is kept, in place of the one that stood at its place
abbrev pub with_row : Stored → Place → StampedRow → Stored
with_row s p row = record { tables = insert s.tables p row; room = room_after (get s.tables p) s.room }
