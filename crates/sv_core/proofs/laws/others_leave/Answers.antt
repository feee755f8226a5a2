use Rattle.sv_core.proofs.SameLaws as promise
use Rattle.sv_core.proofs.laws.others_leave.Goals as goal

pub returns : goal.returns
returns c = promise.others_leave
