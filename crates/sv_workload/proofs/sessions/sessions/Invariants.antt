use Rattle.std.proofs.Common.{◌≡◌, ◌≤◌, length}
use Rattle.sv_app.specs.Trees.{transactions_of}
use Rattle.sv_workload.specs.LastRefused.{total}
use Rattle.sv_workload.specs.SessionReading.{sessions_from}
use Rattle.sv_workload.proofs.sessions.sessions.Given as goal

abbrev pub invariant-loop-alloc : goal.invariant-loop-alloc
invariant-loop-alloc l = record {
  read : sessions_from (transactions_of l.txns) l.sessions l.reader.rest.now ≡ sessions_from (transactions_of l.txns) l.initial.sessions l.initial.reader.rest.now;
  counted : l.earlier ≡ total length l.sessions;
  few : l.earlier ≤ 8192;
}

abbrev pub decreases-loop-alloc : goal.decreases-loop-alloc
decreases-loop-alloc l = length l.reader.rest.now
