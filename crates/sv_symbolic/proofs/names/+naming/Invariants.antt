use Rattle.sv_app.specs.Trees.{command_of, block_of}
use Rattle.sv_app.specs.Weights.{command_weight, block_weight}
use Rattle.sv_symbolic.proofs.names.+naming.Given as goal

abbrev pub decreases-name_block : goal.decreases-name_block
decreases-name_block l = block_weight (block_of l.stmts.now)

abbrev pub decreases-name_command : goal.decreases-name_command
decreases-name_command l = command_weight (command_of l.stmt.now)
