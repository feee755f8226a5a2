use Rattle.std.proofs.Common.{length}
use Rattle.sv_symbolic.proofs.values.+values.Given as goal

abbrev pub decreases-values : goal.decreases-values
decreases-values l = length l.exprs.now
