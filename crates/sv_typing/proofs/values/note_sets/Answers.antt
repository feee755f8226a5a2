use Rattle.std.proofs.Common.{arith}
use Rattle.sv_app.specs.Schema.{declaration_of}
use Rattle.sv_app.specs.declared.apps.Ident.{Ident}
use Rattle.sv_app.specs.declared.txns.Expr.{Expr}
use Rattle.sv_app.specs.Trees.{term_of}
use Rattle.sv_app.specs.TxnTyping.{set_faults}
use Rattle.sv_typing.specs.Standing.{scope_of}
use Rattle.sv_typing.proofs.NotedLaws.{noted_mapped}
use Rattle.sv_typing.proofs.values.note_sets.Goals as goal

pub loop-column-preserved : goal.loop-column-preserved
loop-column-preserved c =
    noted_mapped (λ (s : Ident × Expr). (s.0, term_of s.1)) (λ set. set_faults (scope_of c.args.at.now) (declaration_of c.args.table.now) set) c.args.sets.now
    c.loop-column.column-index c.loop-column-item.result c.args.first.now.held c.loop-column.first.held c.note_set.new.first.held
    (omega (arith, c.loop-column-test.true)) c.loop-column-item.is c.loop-column.invariant c.note_set.ensures
