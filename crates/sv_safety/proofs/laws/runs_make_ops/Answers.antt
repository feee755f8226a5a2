use Rattle.sv_safety.proofs.Promises as promise
use Rattle.sv_safety.proofs.laws.runs_make_ops.Goals as goal

pub returns : goal.returns
returns c = promise.runs_make_ops
