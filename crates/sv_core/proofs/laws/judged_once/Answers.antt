use Rattle.sv_core.proofs.laws.judged_once.Goals as goal
use Rattle.sv_core.proofs.JudgedLaws as promise

pub returns : goal.returns
returns c = promise.judged_once
