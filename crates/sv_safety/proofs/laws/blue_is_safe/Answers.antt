use Rattle.sv_safety.proofs.Promises as promise
use Rattle.sv_safety.proofs.laws.blue_is_safe.Goals as goal

pub returns : goal.returns
returns c = promise.blue_is_safe
