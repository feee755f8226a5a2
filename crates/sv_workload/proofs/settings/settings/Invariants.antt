use Rattle.std.proofs.Common.{◌≡◌, length}
use Rattle.sv_workload.specs.Reading.{settings_from, IsBounded}
use Rattle.sv_workload.proofs.settings.settings.Given as goal

abbrev pub invariant-loop-reader : goal.invariant-loop-reader
invariant-loop-reader l = record {
  read : settings_from l.rows l.given l.reader.rest.now ≡ settings_from l.rows l.initial.given l.initial.reader.rest.now;
  bounded : IsBounded l.given;
}

abbrev pub decreases-loop-reader : goal.decreases-loop-reader
decreases-loop-reader l = length l.reader.rest.now
