use Rattle.sv_safety.proofs.Promises as promise
use Rattle.sv_safety.proofs.laws.requests_draw_apart.Goals as goal

pub returns : goal.returns
returns c = promise.requests_draw_apart
