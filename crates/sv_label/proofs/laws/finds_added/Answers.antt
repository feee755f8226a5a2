use Rattle.sv_label.proofs.FindLaws.{finds_added}
use Rattle.sv_label.proofs.laws.finds_added.Goals as goal

pub returns : goal.returns
returns c = finds_added
