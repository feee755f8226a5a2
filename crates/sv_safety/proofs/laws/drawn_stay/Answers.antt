use Rattle.sv_safety.proofs.Promises as promise
use Rattle.sv_safety.proofs.laws.drawn_stay.Goals as goal

pub returns : goal.returns
returns c = promise.drawn_stay
