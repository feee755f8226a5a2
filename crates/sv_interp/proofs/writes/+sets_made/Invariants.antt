use Rattle.std.proofs.Common.{length}
use Rattle.sv_interp.proofs.writes.+sets_made.Given as goal

abbrev pub decreases-sets_made : goal.decreases-sets_made
decreases-sets_made l = length l.sets.now
