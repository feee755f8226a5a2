-- What the changes of a run make of bare tables, in order, each write winning; they fit if the tables that they leave are valid.
use Rattle.std.specs.Prelude.{List, [], ◌∷◌, Option, Some, None, map, unwrap_or}
use Rattle.std.specs.FinMap.{get, insert}
use Rattle.sv_app.specs.declared.gots.Got.{Got}
use Rattle.sv_app.specs.declared.places.Place.{Place}
use Rattle.sv_app.specs.Schema.{Declaration}
use Rattle.sv_app.specs.Tables.{Row, Tables}
use Rattle.sv_app.specs.Valid.{Valid}
use Rattle.sv_effect.specs.Acts.{IsFound}
use Rattle.sv_effect.specs.Applied.{zeros_in}
use Rattle.sv_effect.specs.RowChange.{turn_of}
use Rattle.sv_effect.specs.Run.{row_with}
use Rattle.sv_effect.specs.BareTables.{got_of}
use Rattle.sv_effect.specs.RunChanges.{Effect, with_writes, stands}

-- the values that a change starts from: those of the kept row, else zeros with the key
abbrev pub values_before : List Declaration → Place → Option Row → List Got
values_before schema p None = map got_of (zeros_in schema p)
values_before schema p (Some row) = row.values

-- the row after a change: an insert makes it present, a remove makes it absent, an update keeps what it was
abbrev pub row_after : List Declaration → Effect → Option Row → Row
row_after schema e row = row_with (with_writes e.writes (values_before schema e.place row)) (unwrap_or (turn_of e.act) (stands row))

abbrev pub with_effect : List Declaration → Effect → Tables → Tables
with_effect schema e t = insert t e.place (row_after schema e (get t e.place))

abbrev pub with_effects : List Declaration → List Effect → Tables → Tables
with_effects schema [] t = t
with_effects schema (e ∷ es) t = with_effects schema es (with_effect schema e t)

abbrev pub Fits : List Declaration → List Effect → Tables → Type 0
Fits schema es t = Valid schema (with_effects schema es t)

-- each row that is updated or removed is kept, or an earlier change inserts it
abbrev pub FindsAll : List Declaration → List Effect → Tables → Type 0
FindsAll schema [] t = Unit {0}
FindsAll schema (e ∷ es) t = IsFound e.act (get t e.place) × FindsAll schema es (with_effect schema e t)
