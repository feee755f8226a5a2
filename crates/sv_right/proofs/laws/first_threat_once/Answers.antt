use Rattle.sv_right.proofs.OnceLaws.{first_threat_once}
use Rattle.sv_right.proofs.laws.first_threat_once.Goals as goal

pub returns : goal.returns
returns c = first_threat_once
