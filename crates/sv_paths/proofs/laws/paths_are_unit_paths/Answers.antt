use Rattle.sv_paths.proofs.WayLaws.{unit_paths}
use Rattle.sv_paths.proofs.laws.paths_are_unit_paths.Goals as goal

pub returns : goal.returns
returns c = unit_paths
