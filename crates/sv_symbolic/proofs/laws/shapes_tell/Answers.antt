use Rattle.sv_symbolic.proofs.ShapeLaws.{shapes_tell}
use Rattle.sv_symbolic.proofs.laws.shapes_tell.Goals as goal

pub returns : goal.returns
returns c = shapes_tell
