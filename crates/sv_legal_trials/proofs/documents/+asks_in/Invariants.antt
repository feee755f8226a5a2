use Rattle.std.proofs.Common.{length}
use Rattle.sv_legal_trials.proofs.documents.+asks_in.Given as goal

abbrev pub decreases-asks_in : goal.decreases-asks_in
decreases-asks_in l = length l.steps.now
