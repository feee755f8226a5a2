use Rattle.sv_safety.proofs.Promises as promise
use Rattle.sv_safety.proofs.laws.kept_stays.Goals as goal

pub returns : goal.returns
returns c = promise.kept_stays
