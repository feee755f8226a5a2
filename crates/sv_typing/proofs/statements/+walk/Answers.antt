use Rattle.std.proofs.Common.{◌≡◌, ◌∙◌, List, ap, arith, subst}
use Rattle.sv_app.specs.declared.names.Known.{Known}
use Rattle.sv_app.specs.Scopes.{Scope}
use Rattle.sv_app.specs.Trees.{command_of, block_of}
use Rattle.sv_app.specs.TxnTyping.{command_faults, inner_faults, block_faults}
use Rattle.sv_typing.specs.Noted.{noted}
use Rattle.sv_typing.specs.Standing.{in_block}
use Rattle.sv_typing.proofs.StatementLaws.{one_statement}
use Rattle.sv_typing.proofs.statements.+walk.Goals as goal

pub note_block-loop-stmt-preserved : goal.note_block-loop-stmt-preserved
note_block-loop-stmt-preserved t c =
    one_statement (in_block c.args.tables.now c.loop-stmt.known.items) (in_block c.args.tables.now c.know.new.known.items) c.args.stmts.now c.loop-stmt.stmt-index c.stmt-item.result
    c.loop-stmt.first.held c.note_stmt.new.first.held c.note_inner.new.first.held (noted c.args.first.now.held (block_faults (in_block c.args.tables.now c.args.outside.now) (block_of c.args.stmts.now)))
    (omega (arith, c.loop-stmt-test.true)) c.stmt-item.is c.loop-stmt.invariant
    (subst (λ (at : Scope). c.note_stmt.new.first.held ≡ noted c.loop-stmt.first.held (command_faults at (command_of c.stmt-item.result)))
    (c.in_block.ensures ∙ ap (λ (known : List Known). in_block c.args.tables.now known) c.deref.ensures.value) c.in_ok-note_stmt.ensures)
    (subst (λ (known : List Known). c.note_inner.new.first.held ≡ noted c.note_stmt.new.first.held (inner_faults (in_block c.args.tables.now known) (command_of c.stmt-item.result)))
    c.deref-in-loop-stmt.ensures.value c.in_ok-note_inner.ensures)
    c.in_ok-know.ensures
