use Rattle.std.proofs.Common.{◌≡◌, take}
use Rattle.std.specs.List.{flat_map}
use Rattle.sv_app.specs.Schema.{schema_of}
use Rattle.sv_app.specs.Trees.{transactions_of}
use Rattle.sv_app.specs.TxnTyping.{txn_faults}
use Rattle.sv_typing.specs.Noted.{noted}
use Rattle.sv_typing.proofs.txns.note_each.Given as goal

abbrev pub invariant-loop-txn : goal.invariant-loop-txn
invariant-loop-txn l = l.first.held ≡ noted l.initial.first.held (flat_map (λ txn. txn_faults (schema_of l.tables) txn) (transactions_of (take l.txn-index l.txns)))
