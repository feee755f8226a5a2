use Rattle.std.proofs.Common.{length, ◌+◌}
use Rattle.sv_linear.proofs.sums.+push_sum.Given as goal

abbrev pub decreases-push_sum : goal.decreases-push_sum
decreases-push_sum l = length l.a.now + length l.b.now
