use Rattle.std.proofs.Common.{length}
use Rattle.sv_effect.proofs.writes.+make_writes.Given as goal

abbrev pub decreases-make_writes : goal.decreases-make_writes
decreases-make_writes l = length l.writes.now
