use Rattle.sv_core.proofs.laws.any_sequence.Goals as goal
use Rattle.sv_core.proofs.Promises as promise

pub returns : goal.returns
returns c = promise.any_sequence
