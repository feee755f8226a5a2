use Rattle.sv_core.proofs.Promises as promise
use Rattle.sv_core.proofs.laws.blues_are_safe.Goals as goal

pub returns : goal.returns
returns c = promise.blues_are_safe
