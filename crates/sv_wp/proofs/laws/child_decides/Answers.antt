use Rattle.sv_wp.proofs.Others.{child_decides}
use Rattle.sv_wp.proofs.laws.child_decides.Goals as goal

pub returns : goal.returns
returns c = child_decides
