use Rattle.sv_core.proofs.laws.blues_lead.Goals as goal
use Rattle.sv_core.proofs.Promises as promise

pub returns : goal.returns
returns c = promise.blues_lead
