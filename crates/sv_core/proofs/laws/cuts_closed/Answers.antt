use Rattle.sv_core.proofs.laws.cuts_closed.Goals as goal
use Rattle.sv_core.proofs.Promises as promise

pub returns : goal.returns
returns c = promise.cuts_closed
