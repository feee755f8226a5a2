use Rattle.std.proofs.Common.{◌≡◌, drop}
use Rattle.sv_app.specs.Trees.{command_of, block_of}
use Rattle.sv_app.specs.TxnTyping.{block_faults}
use Rattle.sv_app.specs.Weights.{command_weight, block_weight}
use Rattle.sv_typing.specs.Noted.{noted}
use Rattle.sv_typing.specs.Standing.{in_block}
use Rattle.sv_typing.proofs.statements.+walk.Given as goal

abbrev pub decreases-note_block : goal.decreases-note_block
decreases-note_block l = block_weight (block_of l.stmts.now)

abbrev pub decreases-note_inner : goal.decreases-note_inner
decreases-note_inner l = command_weight (command_of l.stmt.now)

abbrev pub invariant-note_block-loop-stmt : goal.invariant-note_block-loop-stmt
invariant-note_block-loop-stmt l =
    noted l.first.held (block_faults (in_block l.tables l.known.items) (block_of (drop l.stmt-index l.stmts)))
    ≡ noted l.initial.first.held (block_faults (in_block l.tables l.outside) (block_of l.stmts))
