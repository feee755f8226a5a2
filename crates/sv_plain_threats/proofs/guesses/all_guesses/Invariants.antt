use Rattle.std.proofs.Common.{◌≡◌}
use Rattle.sv_plain_threats.specs.Tries.{guesses_below}
use Rattle.sv_plain_threats.proofs.guesses.all_guesses.Given as goal

abbrev pub invariant-loop-number : goal.invariant-loop-number
invariant-loop-number l = l.guesses.items ≡ guesses_below l.number
