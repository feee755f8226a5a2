use Rattle.std.proofs.Common.{length}
use Rattle.sv_symbolic.proofs.states.+form_of.Given as goal

abbrev pub decreases-form_of : goal.decreases-form_of
decreases-form_of l = length l.sources.now
