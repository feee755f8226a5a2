use Rattle.std.proofs.Common.{length}
use Rattle.sv_effect.proofs.values.+zeros_from.Given as goal

abbrev pub decreases-zeros_from : goal.decreases-zeros_from
decreases-zeros_from l = length l.columns.now
