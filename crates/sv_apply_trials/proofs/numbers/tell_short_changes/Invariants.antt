use Rattle.std.proofs.Common.{take}
use Rattle.std.specs.Prelude.{All}
use Rattle.sv_core.specs.Counts.{AddsShort}
use Rattle.sv_apply_trials.proofs.numbers.tell_short_changes.Given as goal

abbrev pub invariant-loop-effect : goal.invariant-loop-effect
invariant-loop-effect l = All AddsShort (take l.effect-index l.effects)
