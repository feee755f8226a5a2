-- An operation commutes if, with each one that the schema allows and that was made at another time or site, both orders of applying give equal
-- stamped tables, whatever stands in them.
use Rattle.std.specs.Prelude.{◌≡◌, ◌⊎◌, ◌≢◌, List, Some}
use Rattle.std.specs.FinMap.{get}
use Rattle.sv_app.specs.declared.places.Place.{Place}
use Rattle.sv_app.specs.Schema.{Declaration}
use Rattle.sv_effect.specs.declared.ops.Op.{Op}
use Rattle.sv_effect.specs.StampedTables.{StampedRow, StampedTables}
use Rattle.sv_effect.specs.Applied.{columns_in, applied}
use Rattle.sv_effect.specs.Fits.{CellsFit, OpFits}

-- each row is of its table
abbrev pub TablesFit : List Declaration → StampedTables → Type 0
TablesFit schema t = (p : Place) (row : StampedRow) → get t p ≡ Some row → CellsFit (columns_in schema p) row.cells

abbrev pub Apart : Op → Op → Type 0
Apart a b = (a.time ≢ b.time) ⊎ (a.site ≢ b.site)

abbrev pub Commutes : List Declaration → Op → Type 0
Commutes schema op = (other : Op) (t : StampedTables) → OpFits schema other → Apart op other → TablesFit schema t
    → applied schema op (applied schema other t) ≡ applied schema other (applied schema op t)
