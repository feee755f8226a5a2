use Rattle.sv_dict.proofs.TellLaws.{atoms_once}
use Rattle.sv_dict.proofs.laws.atoms_once.Goals as goal

pub returns : goal.returns
returns c = atoms_once
