use Rattle.std.proofs.Common.{◌≡◌, ◌∙◌, Some, sym, ap}
use Rattle.sv_workload.specs.Reading.{list_long, left_of}
use Rattle.sv_workload.proofs.LongTurnLaws.{long_here}
use Rattle.sv_workload.proofs.longs.long_args.Goals as goal

pub returns-in-Ok-Some : goal.returns-in-Ok-Some
returns-in-Ok-Some c =
    let there : left_of (list_long c.loop-left.reader.rest.now) ≡ Some c.in-Ok-Some.left = sym c.in-Ok-Some.ensures ∙ c.in-Ok-Some.field-0-is in
    sym (long_here c.loop-left.reader.rest.now c.in-Ok-Some.left there) ∙ ap left_of c.loop-left.invariant
