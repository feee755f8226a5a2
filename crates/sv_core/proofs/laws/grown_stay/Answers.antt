use Rattle.sv_core.proofs.laws.grown_stay.Goals as goal
use Rattle.sv_core.proofs.Promises as promise

pub returns : goal.returns
returns c = promise.grown_stay
