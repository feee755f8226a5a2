use Rattle.std.proofs.Common.{length}
use Rattle.sv_interp.proofs.needs.+add_all_present.Given as goal

abbrev pub decreases-add_all_present : goal.decreases-add_all_present
decreases-add_all_present l = length l.vals.now
