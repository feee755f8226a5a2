use Rattle.std.proofs.Common.{rules, refl}
use Rattle.std.proofs.lemmas.Fn.{says_at}
use Rattle.sv_live.proofs.ServeLaws.{told_ok}
use Rattle.sv_live.proofs.serving.tell.Goals as goal

pub returns : goal.returns
returns g c = told_ok g.F.Fn c.args.text.now c.args.world.now.medium.doc c.args.world.now c.text.result (search rules) (says_at g.F.Fn c.text.ensures refl)
