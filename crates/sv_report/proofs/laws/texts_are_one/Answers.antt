use Rattle.sv_report.proofs.DocumentLaws.{texts_are_one}
use Rattle.sv_report.proofs.laws.texts_are_one.Goals as goal

pub returns : goal.returns
returns c = texts_are_one
