use Rattle.sv_core.proofs.laws.kept_stay.Goals as goal
use Rattle.sv_core.proofs.Promises as promise

pub returns : goal.returns
returns c = promise.kept_stay
