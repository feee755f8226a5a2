use Rattle.std.proofs.Common.{◌≡◌, map, take}
use Rattle.sv_value.specs.declared.values.Val.TheVariants.{Int}
use Rattle.sv_interp.proofs.statements.integers.Given as goal

abbrev pub invariant-loop-number : goal.invariant-loop-number
invariant-loop-number l = l.items ≡ map (λ n. Int n) (take l.number-index l.numbers)
