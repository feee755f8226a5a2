use Rattle.std.proofs.Common.{length}
use Rattle.sv_interp.proofs.loops.+unit_of.Given as goal

abbrev pub decreases-unit_of : goal.decreases-unit_of
decreases-unit_of l = length l.loops.now
