use Rattle.sv_core.proofs.laws.places_stand.Goals as goal
use Rattle.sv_core.proofs.Promises as promise

pub returns : goal.returns
returns c = promise.places_stand
