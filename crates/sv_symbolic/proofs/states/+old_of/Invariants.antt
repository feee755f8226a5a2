use Rattle.std.proofs.Common.{length}
use Rattle.sv_symbolic.proofs.states.+old_of.Given as goal

abbrev pub decreases-old_of : goal.decreases-old_of
decreases-old_of l = length l.olds.now
