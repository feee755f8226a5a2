use Rattle.std.proofs.Common.{length}
use Rattle.sv_symbolic.proofs.writes.+first_writes.Given as goal

abbrev pub decreases-first_writes : goal.decreases-first_writes
decreases-first_writes l = length l.columns.now
