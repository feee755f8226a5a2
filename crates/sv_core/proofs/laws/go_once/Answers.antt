use Rattle.sv_core.proofs.laws.go_once.Goals as goal
use Rattle.sv_core.proofs.OnceLaws as promise

pub returns : goal.returns
returns c = promise.go_once
