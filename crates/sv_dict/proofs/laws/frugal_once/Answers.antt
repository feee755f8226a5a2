use Rattle.sv_dict.proofs.GroupLaws.{frugal_once}
use Rattle.sv_dict.proofs.laws.frugal_once.Goals as goal

pub returns : goal.returns
returns c = frugal_once
