use Rattle.sv_right.proofs.OnceLaws.{decided_once}
use Rattle.sv_right.proofs.laws.decided_once.Goals as goal

pub returns : goal.returns
returns c = decided_once
