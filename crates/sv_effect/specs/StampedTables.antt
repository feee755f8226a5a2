-- Stamped tables: a finite map from places to rows, in which each mark and each cell that the last writer wins has a stamp.
use Rattle.std.specs.Prelude.{Bool, List}
use Rattle.std.specs.FinMap.{FinMap}
use Rattle.sv_value.specs.declared.stamps.Stamp.{Stamp}
use Rattle.sv_app.specs.Tables.{place_cmp}
use Rattle.sv_effect.specs.declared.cells.Cell.{Cell}
use Rattle.sv_effect.specs.declared.cells.Row.{Row}

-- a value and the stamp of the change that gave it
pub record Stamped (A : Type 0) : Type 0 where
  pub value : A
  pub stamp : Stamp

-- a row without where its cells lie; its mark says whether it is present
pub record StampedRow : Type 0 where
  pub cells : List Cell
  pub mark : Stamped Bool

abbrev pub row_of : Row → StampedRow
row_of row = record { cells = row.cells.items; mark = record { value = row.mark; stamp = row.stamp } }

abbrev pub StampedTables : Type 0
StampedTables = FinMap place_cmp StampedRow

-- the stamp of what was there from the start: it is before that of every operation
abbrev pub zero_stamp : Stamp
zero_stamp = record { time = 0; site = 0; place = 0 }
