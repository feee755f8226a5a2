use Rattle.sv_safety.proofs.Promises as promise
use Rattle.sv_safety.proofs.laws.needs_stay.Goals as goal

pub returns : goal.returns
returns c = promise.needs_stay
