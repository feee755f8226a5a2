use Rattle.std.proofs.Common.{arith}
use Rattle.sv_app.specs.Trees.{term_of}
use Rattle.sv_app.specs.TxnTyping.{term_faults}
use Rattle.sv_typing.specs.Standing.{scope_of}
use Rattle.sv_typing.proofs.NotedLaws.{noted_mapped}
use Rattle.sv_typing.proofs.values.note_terms.Goals as goal

pub loop-expr-preserved : goal.loop-expr-preserved
loop-expr-preserved c =
    noted_mapped term_of (λ e. term_faults (scope_of c.args.at.now) e) c.args.exprs.now c.loop-expr.expr-index c.expr-item.result c.args.first.now.held
    c.loop-expr.first.held c.note_term.new.first.held (omega (arith, c.loop-expr-test.true)) c.expr-item.is c.loop-expr.invariant c.note_term.ensures
