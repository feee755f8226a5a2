use Rattle.sv_wp.proofs.Decided.{tests_decide}
use Rattle.sv_wp.proofs.laws.check_tests_decide.Goals as goal

pub returns : goal.returns
returns c = tests_decide
