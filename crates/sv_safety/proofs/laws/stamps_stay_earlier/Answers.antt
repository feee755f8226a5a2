use Rattle.sv_safety.proofs.Promises as promise
use Rattle.sv_safety.proofs.laws.stamps_stay_earlier.Goals as goal

pub returns : goal.returns
returns c = promise.stamps_stay_earlier
