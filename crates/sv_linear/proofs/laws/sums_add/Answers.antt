use Rattle.sv_linear.proofs.FormLaws.{add_value}
use Rattle.sv_linear.proofs.laws.sums_add.Goals as goal

pub returns : goal.returns
returns c = add_value
