use Rattle.std.proofs.Common.{length}
use Rattle.sv_linear.proofs.sums.+push_turned.Given as goal

abbrev pub decreases-push_turned : goal.decreases-push_turned
decreases-push_turned l = length l.terms.now
