use Rattle.std.proofs.Common.{◌≡◌, map, take}
use Rattle.sv_app.specs.Trees.{command_of, block_of}
use Rattle.sv_app.specs.TxnNumbers.{numbered_command}
use Rattle.sv_app.specs.Weights.{command_weight, block_weight}
use Rattle.sv_typing.specs.Standing.{naming_of}
use Rattle.sv_typing.proofs.copies.+fill.Given as goal

abbrev pub decreases-fill_block : goal.decreases-fill_block
decreases-fill_block l = block_weight (block_of l.stmts.now)

abbrev pub decreases-fill_stmt : goal.decreases-fill_stmt
decreases-fill_stmt l = command_weight (command_of l.stmt.now)

abbrev pub invariant-fill_block-loop-stmt : goal.invariant-fill_block-loop-stmt
invariant-fill_block-loop-stmt l = map command_of l.copies.items ≡ map (numbered_command (naming_of l.by)) (map command_of (take l.stmt-index l.stmts))
