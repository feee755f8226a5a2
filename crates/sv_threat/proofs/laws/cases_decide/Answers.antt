use Rattle.sv_threat.proofs.CaseLaws.{cases_decide}
use Rattle.sv_threat.proofs.laws.cases_decide.Goals as goal

pub returns : goal.returns
returns c = cases_decide
