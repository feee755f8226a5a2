use Rattle.std.proofs.Common.{length}
use Rattle.sv_form_trials.proofs.kept.+check_terms.Given as goal

abbrev pub decreases-check_terms : goal.decreases-check_terms
decreases-check_terms l = length l.terms.now
