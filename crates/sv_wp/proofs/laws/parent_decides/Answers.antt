use Rattle.sv_wp.proofs.Others.{parent_decides}
use Rattle.sv_wp.proofs.laws.parent_decides.Goals as goal

pub returns : goal.returns
returns c = parent_decides
