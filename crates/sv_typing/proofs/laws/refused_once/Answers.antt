use Rattle.sv_typing.proofs.PlaceLaws.{refused_once}
use Rattle.sv_typing.proofs.laws.refused_once.Goals as goal

pub returns : goal.returns
returns c = refused_once
