use Rattle.std.proofs.Common.{◌≡◌, ◌∙◌, suc, ap, arith}
use Rattle.sv_plain_threats.specs.Tries.{guesses_below}
use Rattle.sv_plain_threats.proofs.guesses.all_guesses.Goals as goal

pub returns : goal.returns
returns c =
    let all : c.loop-number.number ≡ suc c.args.reach = omega (arith, c.loop-number-test.false, c.loop-number.auto) in
    c.loop-number.invariant ∙ ap guesses_below all
