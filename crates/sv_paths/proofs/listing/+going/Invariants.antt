use Rattle.sv_app.specs.Trees.{command_of, block_of}
use Rattle.sv_app.specs.Weights.{command_weight, block_weight}
use Rattle.sv_paths.proofs.listing.+going.Given as goal

abbrev pub decreases-block_goes_on : goal.decreases-block_goes_on
decreases-block_goes_on l = block_weight (block_of l.stmts.now)

abbrev pub decreases-command_goes_on : goal.decreases-command_goes_on
decreases-command_goes_on l = command_weight (command_of l.stmt.now)
