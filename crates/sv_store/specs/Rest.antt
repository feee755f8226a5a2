-- The rows of a table behind a key, or all of them, and where among rows in order of their places they begin.
use Rattle.std.specs.Prelude.{◌≡◌, ℕ, ◌<◌, ◌≤◌, ◌==◌, ◌&&◌, ◌||◌, nat_lt, if◌then◌else◌, Bool, true, false, List, [], ◌∷◌, length, filter, Option, Some, None, slice_get}
use Rattle.std.specs.FinMap.{entries}
use Rattle.sv_value.specs.declared.values.Key.{Key}
use Rattle.sv_app.specs.declared.places.Place.{Place}
use Rattle.sv_effect.specs.StampedTables.{StampedTables}
use Rattle.sv_effect.specs.Agrees.{is_after}
use Rattle.sv_store.specs.declared.rows.KeptRow.{KeptRow}

abbrev pub is_in_rest : ℕ → Option Key → Place → Bool
is_in_rest table after place = place.table == table && is_after after place.key

-- how many there are
abbrev pub rest_of : StampedTables → ℕ → Option Key → ℕ
rest_of t table after = length (filter (λ entry. is_in_rest table after entry.0) (entries t))

-- the place is one of them, or of a later table
abbrev pub is_behind : ℕ → Option Key → Place → Bool
is_behind table after place = nat_lt table place.table || is_in_rest table after place

-- the rows from this number on are behind the key, and those before it aren't
pub record IsStart (rows : List KeptRow) (table : ℕ) (after : Option Key) (at : ℕ) : Type 0 where
  pub within : at ≤ length rows
  pub before : (i : ℕ) (row : KeptRow) → i < at → slice_get rows i ≡ Some row → is_behind table after row.place ≡ false
  pub behind : (i : ℕ) (row : KeptRow) → at ≤ i → slice_get rows i ≡ Some row → is_behind table after row.place ≡ true

-- the key of the first row of the table that is present, before any of another table
abbrev pub first_present : ℕ → List KeptRow → Option Key
first_present table [] = None
first_present table (kept ∷ rows) = if kept.place.table == table then if kept.row.mark then Some kept.place.key else first_present table rows else None
