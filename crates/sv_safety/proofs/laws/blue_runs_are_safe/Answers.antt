use Rattle.sv_safety.proofs.Promises as promise
use Rattle.sv_safety.proofs.laws.blue_runs_are_safe.Goals as goal

pub returns : goal.returns
returns c = promise.blue_runs_are_safe
