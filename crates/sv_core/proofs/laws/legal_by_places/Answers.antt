use Rattle.sv_core.proofs.laws.legal_by_places.Goals as goal
use Rattle.sv_core.proofs.Promises as promise

pub returns : goal.returns
returns c = promise.legal_by_places
