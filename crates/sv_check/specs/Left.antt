-- Where changes left rows, and the row that a change starts from.
use Rattle.std.specs.Prelude.{Bool, List, Option}
use Rattle.std.specs.List.{list_any}
use Rattle.sv_app.specs.declared.places.Place.{Place}
use Rattle.sv_app.specs.Schema.{Declaration}
use Rattle.sv_app.specs.Tables.{Row}
use Rattle.sv_effect.specs.declared.left.LeftRow.{LeftRow}
use Rattle.sv_effect.specs.Run.{row_with}
use Rattle.sv_effect.specs.RunChanges.{Effect, stands}
use Rattle.sv_effect.specs.Effects.{values_before}
use Rattle.sv_effect.specs.TablesOfCut.{is_place}

-- whether a change left a row there
abbrev pub is_left : Place → List (Place × LeftRow) → Bool
is_left p left = list_any (λ e. is_place p e.0) left

-- the row that a change starts from
abbrev pub start_of : List Declaration → Effect → Option Row → Row
start_of schema e row = row_with (values_before schema e.place row) (stands row)
