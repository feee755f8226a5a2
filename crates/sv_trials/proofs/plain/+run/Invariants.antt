use Rattle.std.proofs.Common.{◌*◌, ◌+◌}
use Rattle.sv_app.specs.Trees.{command_of, block_of}
use Rattle.sv_app.specs.Weights.{command_weight, block_weight}
use Rattle.sv_trials.proofs.plain.+run.Given as goal

abbrev pub decreases-run_block : goal.decreases-run_block
decreases-run_block l = block_weight (block_of l.stmts.now) * 2

abbrev pub decreases-run_stmt : goal.decreases-run_stmt
decreases-run_stmt l = command_weight (command_of l.stmt.now) * 2

abbrev pub decreases-run_for : goal.decreases-run_for
decreases-run_for l = block_weight (block_of l.body.now) * 2 + 1

abbrev pub decreases-run_each : goal.decreases-run_each
decreases-run_each l = block_weight (block_of l.body.now) * 2 + 1
