use Rattle.sv_linear.proofs.FormLaws.{scale_value}
use Rattle.sv_linear.proofs.laws.multiples_scale.Goals as goal

pub returns : goal.returns
returns c = scale_value
