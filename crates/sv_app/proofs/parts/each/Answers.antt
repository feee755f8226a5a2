use Rattle.sv_app.proofs.Trees.{command_each}
use Rattle.sv_app.proofs.parts.each.Goals as goal

pub returns : goal.returns
returns c = command_each c.args.var c.args.list c.args.body
