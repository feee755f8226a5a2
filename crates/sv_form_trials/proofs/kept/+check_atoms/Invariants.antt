use Rattle.std.proofs.Common.{length}
use Rattle.sv_form_trials.proofs.kept.+check_atoms.Given as goal

abbrev pub decreases-check_atoms : goal.decreases-check_atoms
decreases-check_atoms l = length l.atoms.now
