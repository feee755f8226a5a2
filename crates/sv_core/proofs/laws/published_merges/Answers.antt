use Rattle.sv_core.proofs.laws.published_merges.Goals as goal
use Rattle.sv_core.proofs.Promises as promise

pub returns : goal.returns
returns c = promise.published_merges
