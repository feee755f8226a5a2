use Rattle.sv_simplify.proofs.OnceLaws.{left_once}
use Rattle.sv_simplify.proofs.laws.left_once.Goals as goal

pub returns : goal.returns
returns c = left_once
