use Rattle.sv_core.proofs.laws.one_more.Goals as goal
use Rattle.sv_core.proofs.Promises as promise

pub returns : goal.returns
returns c = promise.one_more
