use Rattle.sv_wp.proofs.Others.{unique_decides}
use Rattle.sv_wp.proofs.laws.unique_decides.Goals as goal

pub returns : goal.returns
returns c = unique_decides
