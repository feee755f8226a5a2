use Rattle.sv_app.specs.Trees.{command_of, block_of}
use Rattle.sv_app.specs.Weights.{command_weight, block_weight}
use Rattle.sv_paths.proofs.bodies.+looping.Given as goal

abbrev pub decreases-put_bodies : goal.decreases-put_bodies
decreases-put_bodies l = block_weight (block_of l.stmts.now)

abbrev pub decreases-put_bodies_of : goal.decreases-put_bodies_of
decreases-put_bodies_of l = command_weight (command_of l.stmt.now)
