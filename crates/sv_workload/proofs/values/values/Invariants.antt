use Rattle.std.proofs.Common.{◌≡◌, length}
use Rattle.sv_reader.specs.Reading.{others_at}
use Rattle.sv_workload.specs.Reading.{value_step}
use Rattle.sv_workload.proofs.values.values.Given as goal

abbrev pub invariant-loop-reader : goal.invariant-loop-reader
invariant-loop-reader l = others_at value_step l.values l.reader.rest.now ≡ others_at value_step l.initial.values l.initial.reader.rest.now

abbrev pub decreases-loop-reader : goal.decreases-loop-reader
decreases-loop-reader l = length l.reader.rest.now
