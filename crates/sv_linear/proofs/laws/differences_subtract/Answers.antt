use Rattle.sv_linear.proofs.FormLaws.{sub_value}
use Rattle.sv_linear.proofs.laws.differences_subtract.Goals as goal

pub returns : goal.returns
returns c = sub_value
