use Rattle.std.proofs.Common.{ℕ, ◌<◌, ◌≤ℤ◌}
use Rattle.sv_bounds.specs.Rounds.{value}
use Rattle.sv_bounds.proofs.rounds.fallen.Given as goal

abbrev pub invariant-loop-x : goal.invariant-loop-x
invariant-loop-x l = (k : ℕ) → k < l.x → value l.old k ≤ℤ value l.new k
