use Rattle.sv_app.specs.Trees.{command_of, block_of}
use Rattle.sv_app.specs.Weights.{command_weight, block_weight}
use Rattle.sv_interp.proofs.loops.+looping.Given as goal

abbrev pub decreases-put_loops : goal.decreases-put_loops
decreases-put_loops l = block_weight (block_of l.stmts.now)

abbrev pub decreases-put_loops_of : goal.decreases-put_loops_of
decreases-put_loops_of l = command_weight (command_of l.stmt.now)
