use Rattle.std.proofs.Common.{◌≡◌, ◌≤◌, take}
use Rattle.sv_lex.specs.Tokens.{digits_value}
use Rattle.sv_lex.proofs.numbers.number_of.Given as goal

abbrev pub invariant-loop-digit : goal.invariant-loop-digit
invariant-loop-digit l = record { value : l.value ≡ digits_value (take l.digit-index l.digits); fits : l.value ≤ 9223372036854775807 }
