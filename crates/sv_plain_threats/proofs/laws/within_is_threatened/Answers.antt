use Rattle.sv_plain_threats.proofs.WithinLaws.{within_is_threatened}
use Rattle.sv_plain_threats.proofs.laws.within_is_threatened.Goals as goal

pub returns : goal.returns
returns c = within_is_threatened
