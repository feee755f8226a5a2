use Rattle.std.proofs.Common.{length}
use Rattle.sv_plain_threats.proofs.threats.+any_invariant.Given as goal

abbrev pub decreases-any_invariant : goal.decreases-any_invariant
decreases-any_invariant l = length l.invs.now
