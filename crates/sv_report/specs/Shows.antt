-- The rows of a table as they are told key by key, and what the rows of a table are.
use Rattle.std.specs.Prelude.{◌≡◌, ◌↔◌, ℕ, true, List, Contains, Some, IsTrue}
use Rattle.std.specs.FinMap.{get}
use Rattle.std.specs.FinMap.Entries.{is_sorted}
use Rattle.sv_value.specs.declared.values.Key.{Key}
use Rattle.sv_app.specs.declared.places.Place.{Place}
use Rattle.sv_app.specs.Tables.{Tables, place_cmp}
use Rattle.sv_effect.specs.Agrees.{place_at, seen_at}
use Rattle.sv_effect.specs.StampedTables.{StampedRow, StampedTables}
use Rattle.sv_report.specs.Lines.{values_line}

-- the line of the row under a key of a table
abbrev pub line_at : Tables → ℕ → Key → List ℕ
line_at t table key = values_line (seen_at t (place_at table key)).values

-- what the rows that are shown of a table are: their keys rise, and they are exactly the rows that are present there
pub record AreRowsOf (table : ℕ) (t : StampedTables) (rows : List (Place × StampedRow)) : Type 0 where
  pub rising : IsTrue (is_sorted place_cmp rows)
  pub members : (place : Place) (row : StampedRow) → Contains rows (place, row) ↔ ((place.table ≡ table) × (row.mark.value ≡ true) × (get t place ≡ Some row))
