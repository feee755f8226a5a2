use Rattle.std.proofs.Common.{take}
use Rattle.std.specs.Prelude.{All}
use Rattle.sv_core.specs.Counts.{HasShortValues}
use Rattle.sv_apply_trials.proofs.numbers.tell_short_rows.Given as goal

abbrev pub invariant-loop-row : goal.invariant-loop-row
invariant-loop-row l = All HasShortValues (take l.row-index l.init)
