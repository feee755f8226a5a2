use Rattle.sv_simplify.proofs.RowLaws.{dropped_hold}
use Rattle.sv_simplify.proofs.laws.dropped_hold.Goals as goal

pub returns : goal.returns
returns c = dropped_hold
