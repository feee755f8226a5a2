use Rattle.std.proofs.Common.{length}
use Rattle.sv_interp.proofs.inserts.+drawn_writes.Given as goal

abbrev pub decreases-drawn_writes : goal.decreases-drawn_writes
decreases-drawn_writes l = length l.columns.now
