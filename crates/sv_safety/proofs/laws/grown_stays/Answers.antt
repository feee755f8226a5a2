use Rattle.sv_safety.proofs.Promises as promise
use Rattle.sv_safety.proofs.laws.grown_stays.Goals as goal

pub returns : goal.returns
returns c = promise.grown_stays
