use Rattle.sv_wp.proofs.DecideLaws.{atoms_decide}
use Rattle.sv_wp.proofs.laws.atoms_decide.Goals as goal

pub returns : goal.returns
returns c = atoms_decide
