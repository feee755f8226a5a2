use Rattle.sv_wp.proofs.Texts.{list_decides}
use Rattle.sv_wp.proofs.laws.list_decides.Goals as goal

pub returns : goal.returns
returns c = list_decides
