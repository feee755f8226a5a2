-- An operation is newer than tables if each stamp in them has an earlier time.
use Rattle.std.specs.Prelude.{◌≡◌, ℕ, ◌<◌, Some, slice_get}
use Rattle.std.specs.FinMap.{get}
use Rattle.sv_app.specs.declared.places.Place.{Place}
use Rattle.sv_effect.specs.declared.cells.Cell.{Cell}
use Rattle.sv_effect.specs.declared.cells.Cell.TheVariants.{Count, Last, Plain}
use Rattle.sv_effect.specs.declared.ops.Op.{Op}
use Rattle.sv_effect.specs.StampedTables.{StampedRow, StampedTables}

abbrev pub IsEarlier : ℕ → Cell → Type 0
IsEarlier time (Count n) = Unit {0}
IsEarlier time (Last v s) = s.time < time
IsEarlier time (Plain v) = Unit {0}

pub record IsOlder (time : ℕ) (row : StampedRow) : Type 0 where
  pub mark : row.mark.stamp.time < time
  pub cells : (column : ℕ) (cell : Cell) → slice_get row.cells column ≡ Some cell → IsEarlier time cell

abbrev pub AreOlder : ℕ → StampedTables → Type 0
AreOlder time t = (p : Place) (row : StampedRow) → get t p ≡ Some row → IsOlder time row

abbrev pub IsNewer : Op → StampedTables → Type 0
IsNewer op t = AreOlder op.time t
