use Rattle.std.proofs.Common.{length}
use Rattle.sv_threat.proofs.cases.+any_fails.Given as goal

abbrev pub decreases-any_fails : goal.decreases-any_fails
decreases-any_fails l = length l.cases.now
