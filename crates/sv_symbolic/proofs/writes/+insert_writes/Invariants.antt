use Rattle.std.proofs.Common.{length}
use Rattle.sv_symbolic.proofs.writes.+insert_writes.Given as goal

abbrev pub decreases-insert_writes : goal.decreases-insert_writes
decreases-insert_writes l = length l.columns.now
