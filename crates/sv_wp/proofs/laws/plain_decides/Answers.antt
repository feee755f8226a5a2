use Rattle.sv_wp.proofs.Others.{plain_decides}
use Rattle.sv_wp.proofs.laws.plain_decides.Goals as goal

pub returns : goal.returns
returns c = plain_decides
