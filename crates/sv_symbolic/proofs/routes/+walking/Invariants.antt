use Rattle.sv_app.specs.Trees.{command_of, block_of}
use Rattle.sv_app.specs.Weights.{command_weight, block_weight}
use Rattle.sv_symbolic.proofs.routes.+walking.Given as goal

abbrev pub decreases-walk_block : goal.decreases-walk_block
decreases-walk_block l = block_weight (block_of l.stmts.now)

abbrev pub decreases-walk_command : goal.decreases-walk_command
decreases-walk_command l = command_weight (command_of l.stmt.now)
