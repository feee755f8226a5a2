use Rattle.std.proofs.Common.{arith}
use Rattle.sv_app.specs.declared.apps.Ident.{Ident}
use Rattle.sv_app.specs.declared.txns.Expr.{Expr}
use Rattle.sv_app.specs.Trees.{Term, term_of}
use Rattle.sv_app.specs.TxnTyping.{term_faults}
use Rattle.sv_typing.specs.Standing.{scope_of}
use Rattle.sv_typing.proofs.NotedLaws.{noted_mapped}
use Rattle.sv_typing.proofs.changes.note_set_terms.Goals as goal

pub loop-expr-preserved : goal.loop-expr-preserved
loop-expr-preserved c =
    noted_mapped (λ (s : Ident × Expr). (s.0, term_of s.1)) (λ (s : Ident × Term). term_faults (scope_of c.args.at.now) s.1) c.args.sets.now
    c.loop-expr.expr-index c.loop-expr-item.result c.args.first.now.held c.loop-expr.first.held c.note_term.new.first.held
    (omega (arith, c.loop-expr-test.true)) c.loop-expr-item.is c.loop-expr.invariant c.note_term.ensures
