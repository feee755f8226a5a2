use Rattle.sv_core.proofs.laws.needs_hold.Goals as goal
use Rattle.sv_core.proofs.Promises as promise

pub returns : goal.returns
returns c = promise.needs_hold
