use Rattle.sv_app.proofs.Trees.{command_if}
use Rattle.sv_app.proofs.parts.if_else.Goals as goal

pub returns : goal.returns
returns c = command_if c.args.cond c.args.yes c.args.no
