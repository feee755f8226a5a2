use Rattle.sv_paths.proofs.FewLaws.{units_are_few}
use Rattle.sv_paths.proofs.laws.units_are_few.Goals as goal

pub returns : goal.returns
returns c = units_are_few
