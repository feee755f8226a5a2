use Rattle.std.proofs.Common.{length}
use Rattle.sv_plain_threats.proofs.rows.+number_before.Given as goal

abbrev pub decreases-number_before : goal.decreases-number_before
decreases-number_before l = length l.row.now
