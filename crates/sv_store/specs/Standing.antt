-- The row that a change starts from, and the row that it leaves.
use Rattle.std.specs.Prelude.{unwrap_or}
use Rattle.std.specs.FinMap.{get}
use Rattle.sv_value.specs.declared.stamps.Stamp.{Stamp}
use Rattle.sv_app.specs.Schema.{Declaration}
use Rattle.sv_effect.specs.declared.ops.RowEffect.{RowEffect}
use Rattle.sv_effect.specs.StampedTables.{StampedRow, StampedTables}
use Rattle.sv_effect.specs.RowChange.{changed, is_annotated, zero_row}
use Rattle.sv_effect.specs.Applied.{place_of}

abbrev pub standing : Declaration → RowEffect → StampedTables → StampedRow
standing table e t = unwrap_or (get t (place_of e)) (zero_row table e.key)

abbrev pub left_by : Declaration → Stamp → RowEffect → StampedTables → StampedRow
left_by table s e t = changed (is_annotated table.kind) s e (standing table e t)
