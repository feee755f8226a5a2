use Rattle.sv_app.specs.Trees.{command_of, block_of}
use Rattle.sv_app.specs.Weights.{command_weight, block_weight}
use Rattle.sv_trials.proofs.plain.+looping.Given as goal

abbrev pub decreases-put_loops : goal.decreases-put_loops
decreases-put_loops l = block_weight (block_of l.stmts.now)

abbrev pub decreases-put_loops_in : goal.decreases-put_loops_in
decreases-put_loops_in l = command_weight (command_of l.stmt.now)
