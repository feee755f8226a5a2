use Rattle.std.proofs.Common.{◌≡◌, map, take}
use Rattle.sv_app.specs.Schema.{schema_of}
use Rattle.sv_app.specs.Trees.{transactions_of}
use Rattle.sv_app.specs.TxnNumbers.{numbered_txn}
use Rattle.sv_typing.proofs.txn_numbers.number_txns.Given as goal

abbrev pub invariant-loop-txn : goal.invariant-loop-txn
invariant-loop-txn l = transactions_of l.copies.items ≡ map (numbered_txn (schema_of l.tables) (transactions_of l.txns)) (transactions_of (take l.txn-index l.txns))
