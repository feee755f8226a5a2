use Rattle.std.proofs.Common.{length}
use Rattle.sv_form_trials.proofs.kept.+chained.Given as goal

abbrev pub decreases-chained : goal.decreases-chained
decreases-chained l = length l.chain.now
