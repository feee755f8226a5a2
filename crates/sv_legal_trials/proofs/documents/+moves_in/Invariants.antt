use Rattle.std.proofs.Common.{length}
use Rattle.sv_legal_trials.proofs.documents.+moves_in.Given as goal

abbrev pub decreases-moves_in : goal.decreases-moves_in
decreases-moves_in l = length l.steps.now
