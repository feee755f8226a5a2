use Rattle.std.proofs.Common.{◌≡◌, length}
use Rattle.sv_app.specs.Schema.{schema_of}
use Rattle.sv_app.specs.Trees.{transactions_of}
use Rattle.sv_workload.specs.LineReading.{lines_from, IsCounted}
use Rattle.sv_workload.proofs.replays.steps.Given as goal

abbrev pub invariant-loop-alloc : goal.invariant-loop-alloc
invariant-loop-alloc l = record {
  read : lines_from (schema_of l.app.tables.items) (transactions_of l.app.txns.items) l.sites l.steps l.reader.rest.now ≡ lines_from (schema_of l.app.tables.items) (transactions_of l.app.txns.items) l.sites l.initial.steps l.initial.reader.rest.now;
  counted : IsCounted l.steps;
}

abbrev pub decreases-loop-alloc : goal.decreases-loop-alloc
decreases-loop-alloc l = length l.reader.rest.now
