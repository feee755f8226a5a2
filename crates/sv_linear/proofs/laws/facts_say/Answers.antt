use Rattle.sv_linear.proofs.FactLaws.{facts_say}
use Rattle.sv_linear.proofs.laws.facts_say.Goals as goal

pub returns : goal.returns
returns c = facts_say
