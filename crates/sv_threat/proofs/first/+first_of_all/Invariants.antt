use Rattle.std.proofs.Common.{length}
use Rattle.sv_threat.proofs.first.+first_of_all.Given as goal

abbrev pub decreases-first_of_all : goal.decreases-first_of_all
decreases-first_of_all l = length l.tables.now
