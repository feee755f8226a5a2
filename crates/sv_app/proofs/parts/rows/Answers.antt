use Rattle.sv_app.proofs.Trees.{command_rows}
use Rattle.sv_app.proofs.parts.rows.Goals as goal

pub returns : goal.returns
returns c = command_rows c.args.row c.args.table c.args.cond c.args.body
