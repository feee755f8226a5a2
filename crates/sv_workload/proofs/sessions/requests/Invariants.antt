use Rattle.std.proofs.Common.{◌≡◌, ◌≤◌, ◌+◌, length}
use Rattle.sv_app.specs.Trees.{transactions_of}
use Rattle.sv_workload.specs.SessionReading.{requests_from}
use Rattle.sv_workload.proofs.sessions.requests.Given as goal

abbrev pub invariant-loop-alloc : goal.invariant-loop-alloc
invariant-loop-alloc l = record {
  read : requests_from (transactions_of l.txns) l.earlier l.requests l.reader.rest.now ≡ requests_from (transactions_of l.txns) l.earlier l.initial.requests l.initial.reader.rest.now;
  few : l.earlier + length l.requests ≤ 8192;
}

abbrev pub decreases-loop-alloc : goal.decreases-loop-alloc
decreases-loop-alloc l = length l.reader.rest.now
