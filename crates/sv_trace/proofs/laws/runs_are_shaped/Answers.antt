use Rattle.sv_trace.proofs.RunLaws.{runs_are_shaped}
use Rattle.sv_trace.proofs.laws.runs_are_shaped.Goals as goal

pub returns : goal.returns
returns c = runs_are_shaped
