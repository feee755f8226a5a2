use Rattle.sv_safety.proofs.Promises as promise
use Rattle.sv_safety.proofs.laws.standing_fits.Goals as goal

pub returns : goal.returns
returns c = promise.standing_fits
