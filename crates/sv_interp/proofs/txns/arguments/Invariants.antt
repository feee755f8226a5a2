use Rattle.std.proofs.Common.{◌≡◌, map, take}
use Rattle.sv_effect.specs.Run.{argument}
use Rattle.sv_interp.proofs.txns.arguments.Given as goal

abbrev pub invariant-loop-arg : goal.invariant-loop-arg
invariant-loop-arg l = l.vals.items ≡ map argument (take l.arg-index l.args)
