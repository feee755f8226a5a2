use Rattle.sv_app.specs.Trees.{command_of, block_of}
use Rattle.sv_app.specs.Weights.{command_weight, block_weight}
use Rattle.sv_symbolic.proofs.loops.+assigning.Given as goal

abbrev pub decreases-put_assigned : goal.decreases-put_assigned
decreases-put_assigned l = block_weight (block_of l.stmts.now)

abbrev pub decreases-put_assigned_by : goal.decreases-put_assigned_by
decreases-put_assigned_by l = command_weight (command_of l.stmt.now)
