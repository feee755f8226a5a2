use Rattle.sv_core.proofs.laws.equal_cuts.Goals as goal
use Rattle.sv_core.proofs.Promises as promise

pub returns : goal.returns
returns c = promise.equal_cuts
