use Rattle.sv_safety.proofs.Promises as promise
use Rattle.sv_safety.proofs.laws.initial_stand.Goals as goal

pub returns : goal.returns
returns c = promise.initial_stand
