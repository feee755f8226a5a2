use Rattle.std.proofs.Common.{◌<◌, ◌+◌, ◌*◌, ◌-◌, get_or, take, refl}
use Rattle.sv_lex.specs.Tokens.{digits_value}
use Rattle.sv_lex.proofs.NumberLaws.{too_great}
use Rattle.sv_lex.proofs.numbers.number_of.Goals as goal

pub returns-then-value-gt-MOST_NUMBER : goal.returns-then-value-gt-MOST_NUMBER
returns-then-value-gt-MOST_NUMBER c =
    let great : 9223372036854775807 < 10 * digits_value (take c.loop-digit.digit-index c.args.digits.now) + (get_or c.args.digits.now c.loop-digit.digit-index 0 - 48)
    = rw (← c.loop-digit.invariant.value) c.if-value-gt-MOST_NUMBER.true in
    rw (too_great c.args.digits.now c.loop-digit.digit-index c.loop-digit-test.true great) refl
