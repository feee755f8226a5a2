use Rattle.sv_wp.proofs.ReadLaws.{atoms_name}
use Rattle.sv_wp.proofs.laws.atoms_name.Goals as goal

pub returns : goal.returns
returns c = atoms_name
