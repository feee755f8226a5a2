use Rattle.sv_simplify.proofs.RowLaws.{false_rows_say}
use Rattle.sv_simplify.proofs.laws.false_rows_say.Goals as goal

pub returns : goal.returns
returns c = false_rows_say
