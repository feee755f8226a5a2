use Rattle.sv_paths.proofs.OrderLaws.{all_paths_are_one}
use Rattle.sv_paths.proofs.laws.all_paths_are_one_list.Goals as goal

pub returns : goal.returns
returns c = all_paths_are_one
