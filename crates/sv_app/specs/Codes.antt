-- The numbers of refusals.
use Rattle.std.specs.Prelude.{ℕ}
use Rattle.sv_app.specs.declared.refusals.Code.{Code}
use Rattle.sv_app.specs.declared.refusals.Code.TheVariants.{Syntax, Unknown, Twice, Kind, Typing, Many, Cyclic, Unsatisfiable, BadInit, TooLong, BadStep, Reserved}

abbrev pub number_of : Code → ℕ
number_of Syntax = 1
number_of Unknown = 2
number_of Twice = 3
number_of Kind = 4
number_of Typing = 5
number_of Many = 6
number_of Cyclic = 7
number_of (Unsatisfiable table cycle) = 8
number_of (BadInit inv row) = 9
number_of TooLong = 10
number_of BadStep = 11
number_of Reserved = 12
