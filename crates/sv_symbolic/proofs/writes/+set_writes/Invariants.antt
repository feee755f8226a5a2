use Rattle.std.proofs.Common.{length}
use Rattle.sv_symbolic.proofs.writes.+set_writes.Given as goal

abbrev pub decreases-set_writes : goal.decreases-set_writes
decreases-set_writes l = length l.sets.now
