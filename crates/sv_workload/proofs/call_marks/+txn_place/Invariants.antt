use Rattle.std.proofs.Common.{length}
use Rattle.sv_workload.proofs.call_marks.+txn_place.Given as goal

abbrev pub decreases-txn_place : goal.decreases-txn_place
decreases-txn_place l = length l.txns.now
