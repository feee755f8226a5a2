use Rattle.std.proofs.Common.{length}
use Rattle.sv_symbolic.proofs.writes.+write_at.Given as goal

abbrev pub decreases-write_at : goal.decreases-write_at
decreases-write_at l = length l.writes.now
