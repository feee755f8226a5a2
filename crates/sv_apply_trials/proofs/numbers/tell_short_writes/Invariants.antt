use Rattle.std.proofs.Common.{take}
use Rattle.std.specs.Prelude.{All}
use Rattle.sv_effect.specs.TablesOfCut.{delta_of}
use Rattle.sv_core.specs.Counts.{IsShort}
use Rattle.sv_apply_trials.proofs.numbers.tell_short_writes.Given as goal

abbrev pub invariant-loop-write : goal.invariant-loop-write
invariant-loop-write l = All (λ w. IsShort (delta_of w.1)) (take l.write-index l.writes)
