use Rattle.sv_wp.proofs.ReadLaws.{atoms_are_exact}
use Rattle.sv_wp.proofs.laws.atoms_are_exact.Goals as goal

pub returns : goal.returns
returns c = atoms_are_exact
