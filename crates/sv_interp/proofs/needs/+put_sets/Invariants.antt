use Rattle.std.proofs.Common.{length}
use Rattle.sv_interp.proofs.needs.+put_sets.Given as goal

abbrev pub decreases-put_sets : goal.decreases-put_sets
decreases-put_sets l = length l.writes.now
