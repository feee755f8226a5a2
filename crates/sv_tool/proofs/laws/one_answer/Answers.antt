use Rattle.sv_tool.proofs.OneLaws.{one_answer}
use Rattle.sv_tool.proofs.laws.one_answer.Goals as goal

pub returns : goal.returns
returns c = one_answer
