-- Tables without their stamps: a row's values, and whether it is present.
use Rattle.std.specs.Prelude.{ℕ, map, length}
use Rattle.std.specs.FinMap.{entries, from_sorted}
use Rattle.sv_value.specs.declared.values.Val.{Val}
use Rattle.sv_value.specs.declared.values.Val.TheVariants.{Int, Text as IsText}
use Rattle.sv_app.specs.declared.gots.Got.{Got}
use Rattle.sv_app.specs.declared.gots.Got.TheVariants.{Num, Text}
use Rattle.sv_app.specs.Tables.{Row, Tables}
use Rattle.sv_effect.specs.declared.cells.Cell.{Cell}
use Rattle.sv_effect.specs.declared.cells.Cell.TheVariants.{Count, Last, Plain}
use Rattle.sv_effect.specs.StampedTables.{StampedRow, StampedTables}

abbrev pub got_of : Val → Got
got_of (Int n) = Num n
got_of (IsText text) = Text text

abbrev pub value_of : Cell → Got
value_of (Count sum) = Num sum
value_of (Last val stamp) = got_of val
value_of (Plain val) = got_of val

abbrev pub bare_row : StampedRow → Row
bare_row row = record { values = map value_of row.cells; present = row.mark.value }

abbrev pub bare : StampedTables → Tables
bare t = from_sorted (map (λ entry. (entry.0, bare_row entry.1)) (entries t))

-- how many rows are kept
abbrev pub how_many : StampedTables → ℕ
how_many t = length (entries t)
