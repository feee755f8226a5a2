use Rattle.std.proofs.Common.{length}
use Rattle.sv_gains.proofs.noted.+noted_in.Given as goal

abbrev pub decreases-noted_in : goal.decreases-noted_in
decreases-noted_in l = length l.gains.now
