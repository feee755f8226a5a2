use Rattle.sv_app.specs.Trees.{command_of, block_of}
use Rattle.sv_app.specs.Weights.{command_weight, block_weight}
use Rattle.sv_paths.proofs.listing.+listing.Given as goal

abbrev pub decreases-block_paths : goal.decreases-block_paths
decreases-block_paths l = block_weight (block_of l.stmts.now)

abbrev pub decreases-command_paths : goal.decreases-command_paths
decreases-command_paths l = command_weight (command_of l.stmt.now)
