-- A row that was looked up fits its place where the rows that the run wrote do.
use Rattle.std.proofs.Common.{List, Option, Some, None}
use Rattle.std.specs.FinMap.{empty}
use Rattle.sv_app.specs.declared.places.Place.{Place}
use Rattle.sv_app.specs.Schema.{Declaration}
use Rattle.sv_app.specs.Tables.{Row}
use Rattle.sv_effect.specs.declared.left.LeftRow.{LeftRow}
use Rattle.sv_effect.specs.Agrees.{seen_in}
use Rattle.sv_effect.specs.Overlays.{over, FoundFits}
use Rattle.sv_effect.specs.RowsFit.{SeenFits}
use Rattle.sv_effect.proofs.OverlayLaws.{found_by}
use Rattle.sv_interp.specs.Keeping.{AreFit}
use Rattle.sv_trace.specs.Standing.{RowAt}
use Rattle.sv_trace.proofs.ChangeLaws.{row_is}

told_fits : (schema : List Declaration) (p : Place) (found : Option Row) → SeenFits schema p (seen_in found) → RowAt schema p found
told_fits schema p None fits = tt
told_fits schema p (Some row) fits = row_is schema p row fits

pub found_fits : (is_of : List Declaration → Type 0) (schema : List Declaration) (own : List (Place × LeftRow)) (p : Place) (found : Option Row) → FoundFits is_of own p found → is_of schema
    → AreFit schema (over own empty) → RowAt schema p found
found_fits is_of schema own p found fit is all = found_by (RowAt schema p) is_of schema own p found fit is (all p) (told_fits schema p found)
