use Rattle.std.proofs.Common.{◌≡◌, ℕ, ◌<◌, length, ◌-ℤ◌}
use Rattle.sv_bounds.specs.Answers.{assigned}
use Rattle.sv_bounds.specs.Rounds.{value}
use Rattle.sv_bounds.proofs.answers.shifted.Given as goal

abbrev pub invariant-loop-cell : goal.invariant-loop-cell
invariant-loop-cell l = record {
  long : length l.values.items ≡ l.cell-index;
  each : (k : ℕ) → k < l.cell-index → assigned l.values.items k ≡ (value l.cells k -ℤ value l.cells 0);
}
