use Rattle.sv_typing.proofs.PlaceLaws.{never_both}
use Rattle.sv_typing.proofs.laws.never_both.Goals as goal

pub returns : goal.returns
returns c = never_both
