use Rattle.sv_safety.proofs.Promises as promise
use Rattle.sv_safety.proofs.laws.rows_stay.Goals as goal

pub returns : goal.returns
returns c = promise.rows_stay
