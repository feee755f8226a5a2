use Rattle.sv_safety.proofs.Promises as promise
use Rattle.sv_safety.proofs.laws.fitting_runs_hold.Goals as goal

pub returns : goal.returns
returns c = promise.fitting_runs_hold
