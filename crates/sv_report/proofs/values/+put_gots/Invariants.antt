use Rattle.std.proofs.Common.{length}
use Rattle.sv_report.proofs.values.+put_gots.Given as goal

abbrev pub decreases-put_gots : goal.decreases-put_gots
decreases-put_gots l = length l.values.now
