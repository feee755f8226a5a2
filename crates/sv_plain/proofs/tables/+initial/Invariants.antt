use Rattle.std.proofs.Common.{length}
use Rattle.sv_plain.proofs.tables.+initial.Given as goal

abbrev pub decreases-initial : goal.decreases-initial
decreases-initial l = length l.init.now
