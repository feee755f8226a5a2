use Rattle.std.proofs.Common.{◌≡◌, length}
use Rattle.sv_workload.specs.Reading.{long_among}
use Rattle.sv_workload.proofs.longs.long_args.Given as goal

abbrev pub invariant-loop-left : goal.invariant-loop-left
invariant-loop-left l = long_among l.reader.rest.now ≡ long_among l.initial.reader.rest.now

abbrev pub decreases-loop-left : goal.decreases-loop-left
decreases-loop-left l = length l.reader.rest.now
