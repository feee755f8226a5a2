use Rattle.sv_safety.proofs.Promises as promise
use Rattle.sv_safety.proofs.laws.runs_draw.Goals as goal

pub returns : goal.returns
returns c = promise.runs_draw
