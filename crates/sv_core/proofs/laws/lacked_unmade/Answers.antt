use Rattle.sv_core.proofs.laws.lacked_unmade.Goals as goal
use Rattle.sv_core.proofs.Promises as promise

pub returns : goal.returns
returns c = promise.lacked_unmade
