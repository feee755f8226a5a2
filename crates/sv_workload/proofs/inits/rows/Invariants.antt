use Rattle.std.proofs.Common.{◌≡◌, length}
use Rattle.sv_app.specs.Schema.{schema_of}
use Rattle.sv_workload.specs.Reading.{rows_from}
use Rattle.sv_workload.proofs.inits.rows.Given as goal

abbrev pub invariant-loop-alloc : goal.invariant-loop-alloc
invariant-loop-alloc l = rows_from (schema_of l.tables) l.rows.rows l.reader.rest.now ≡ rows_from (schema_of l.tables) l.initial.rows.rows l.initial.reader.rest.now

abbrev pub decreases-loop-alloc : goal.decreases-loop-alloc
decreases-loop-alloc l = length l.reader.rest.now
