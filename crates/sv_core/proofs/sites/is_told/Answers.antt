use Rattle.sv_core.proofs.ToldLaws.{told_same}
use Rattle.sv_core.proofs.sites.is_told.Goals as goal

pub returns : goal.returns
returns c = told_same c.args.now.now c.args.before.now c.eq.result c.eq.ensures
