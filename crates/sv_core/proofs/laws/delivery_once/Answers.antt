use Rattle.sv_core.proofs.laws.delivery_once.Goals as goal
use Rattle.sv_core.proofs.OnceLaws as promise

pub returns : goal.returns
returns c = promise.delivery_once
