use Rattle.sv_simplify.proofs.RowLaws.{left_exactly}
use Rattle.sv_simplify.proofs.laws.left_exactly.Goals as goal

pub returns : goal.returns
returns c = left_exactly
