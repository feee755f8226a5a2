use Rattle.std.proofs.Common.{length}
use Rattle.sv_form_trials.proofs.kept.+check_facts.Given as goal

abbrev pub decreases-check_facts : goal.decreases-check_facts
decreases-check_facts l = length l.facts.now
