use Rattle.std.proofs.Common.{arith}
use Rattle.sv_app.specs.Schema.{schema_of}
use Rattle.sv_app.specs.Trees.{transaction_of}
use Rattle.sv_app.specs.TxnTyping.{txn_faults}
use Rattle.sv_typing.proofs.NotedLaws.{noted_mapped}
use Rattle.sv_typing.proofs.txns.note_each.Goals as goal

pub loop-txn-preserved : goal.loop-txn-preserved
loop-txn-preserved c =
    noted_mapped transaction_of (λ txn. txn_faults (schema_of c.args.tables.now) txn) c.args.txns.now c.loop-txn.txn-index c.txn-item.result c.args.first.now.held
    c.loop-txn.first.held c.note_txn.new.first.held (omega (arith, c.loop-txn-test.true)) c.txn-item.is c.loop-txn.invariant c.in_ok-note_txn.ensures
