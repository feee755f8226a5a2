-- A difference as its code has it.
use Rattle.std.specs.Prelude.{Option}
use Rattle.std.specs.Option.{option_map}
use Rattle.sv_linear.specs.declared.facts.Apart.{Apart}
use Rattle.sv_linear.specs.Facts.{Difference}

abbrev pub apart_of : Apart → Difference
apart_of a = record { x = a.x; y = a.y; plus = a.plus }

abbrev pub found_of : Option Apart → Option Difference
found_of a = option_map apart_of a
