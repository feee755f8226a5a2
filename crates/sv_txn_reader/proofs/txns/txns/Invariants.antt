use Rattle.std.proofs.Common.{◌≡◌, length}
use Rattle.sv_app.specs.Trees.{transactions_of}
use Rattle.sv_reader.specs.Reading.{turns_at}
use Rattle.sv_reader.specs.Reading.{keep}
use Rattle.sv_txn_reader.specs.Reading.{begins_txn, txn_step}
use Rattle.sv_txn_reader.proofs.txns.txns.Given as goal

abbrev pub invariant-loop-alloc : goal.invariant-loop-alloc
invariant-loop-alloc l = turns_at begins_txn txn_step keep (transactions_of l.txns.items) l.reader.rest.now ≡ turns_at begins_txn txn_step keep (transactions_of l.initial.txns.items) l.initial.reader.rest.now

abbrev pub decreases-loop-alloc : goal.decreases-loop-alloc
decreases-loop-alloc l = length l.reader.rest.now
