use Rattle.sv_core.proofs.SafeLaws as promise
use Rattle.sv_core.proofs.laws.prepared_is_safe.Goals as goal

pub returns : goal.returns
returns c = promise.prepared_is_safe
