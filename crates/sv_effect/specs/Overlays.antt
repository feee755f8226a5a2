-- Rows that changes left, over the tables before them.
use Rattle.std.specs.Prelude.{◌≡◌, List, [], ◌∷◌, Option, Some, None, if◌then◌else◌}
use Rattle.std.specs.FinMap.{get, insert, empty}
use Rattle.std.specs.Borrow.{Bor}
use Rattle.sv_app.specs.declared.places.Place.{Place}
use Rattle.sv_app.specs.Schema.{Declaration}
use Rattle.sv_app.specs.Tables.{Row, Tables}
use Rattle.sv_effect.specs.declared.left.LeftRow.{LeftRow}
use Rattle.sv_effect.specs.Agrees.{seen_in}
use Rattle.sv_effect.specs.Reads.{SeenValue}
use Rattle.sv_effect.specs.RowsFit.{SeenFits}

abbrev pub left_row : LeftRow → Row
left_row row = record { values = row.values; present = row.present }

-- the latest stands first
abbrev pub over : List (Place × LeftRow) → Tables → Tables
over [] t = t
over (e ∷ es) t = insert (over es t) e.0 (left_row e.1)

abbrev pub left_rows : Option LeftRow → Option Row
left_rows None = None
left_rows (Some row) = Some (left_row row)

-- a row that was left hides the one before
abbrev pub hides : Option Row → Option Row → Option Row
hides None before = before
hides (Some row) before = Some row

abbrev pub lent : Option (Bor LeftRow) → Option Row
lent None = None
lent (Some row) = Some (left_row row.now)

-- the row that an answer tells of
abbrev pub told_row : SeenValue → Option Row
told_row seen = if seen.kept then Some (record { values = seen.values; present = seen.present }) else None

-- what was found is the row that was left, if one was; else it was told of, and fits its place
abbrev pub FitsUnder : List Declaration → Place → Option Row → Option Row → Type 0
FitsUnder schema place (Some row) found = found ≡ Some row
FitsUnder schema place None found = SeenFits schema place (seen_in found)

-- What was found at a place after the changes, over rows of these applications: over no tables stands there what the changes left.
pub record FoundFits (is_of : List Declaration → Type 0) (left : List (Place × LeftRow)) (place : Place) (found : Option Row) : Type 0 where
  pub fits : (schema : List Declaration) → is_of schema → FitsUnder schema place (get (over left empty) place) found
