use Rattle.sv_effect.proofs.LaidLaws.{walked_present}
use Rattle.sv_effect.proofs.keys.present_keys.Goals as goal

pub returns-clause-followed : goal.returns-clause-followed
returns-clause-followed g c = walked_present _ _ _ _ c.args.table c.new-keys.result c.walk.new.keys c.in_ok-walk.ensures.walked c.new-keys.ensures
