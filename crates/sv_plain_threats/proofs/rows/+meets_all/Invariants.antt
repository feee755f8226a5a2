use Rattle.std.proofs.Common.{length}
use Rattle.sv_plain_threats.proofs.rows.+meets_all.Given as goal

abbrev pub decreases-meets_all : goal.decreases-meets_all
decreases-meets_all l = length l.invs.now
