use Rattle.sv_report.proofs.CompileLaws.{same_compiled}
use Rattle.sv_report.proofs.laws.same_compiled.Goals as goal

pub returns : goal.returns
returns c = same_compiled
