use Rattle.std.proofs.Common.{length}
use Rattle.sv_interp.proofs.needs.+is_inserted.Given as goal

abbrev pub decreases-is_inserted : goal.decreases-is_inserted
decreases-is_inserted l = length l.effects.now
