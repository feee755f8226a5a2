use Rattle.std.proofs.Common.{take}
use Rattle.std.specs.Prelude.{All}
use Rattle.sv_effect.specs.TablesOfCut.{number_in}
use Rattle.sv_core.specs.Counts.{IsShort}
use Rattle.sv_apply_trials.proofs.numbers.tell_short_values.Given as goal

abbrev pub invariant-loop-value : goal.invariant-loop-value
invariant-loop-value l = All (λ v. IsShort (number_in v)) (take l.value-index l.values)
