use Rattle.sv_core.proofs.laws.places_valid.Goals as goal
use Rattle.sv_core.proofs.Promises as promise

pub returns : goal.returns
returns c = promise.places_valid
