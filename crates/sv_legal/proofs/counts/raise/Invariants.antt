use Rattle.std.proofs.Common.{◌≡◌, ◌<◌, ◌≤◌, get_or}
use Rattle.std.specs.Prelude.{ℕ, max}
use Rattle.sv_legal.proofs.counts.raise.Given as goal

abbrev pub invariant-loop-place : goal.invariant-loop-place
invariant-loop-place l = record {
  below : (k : ℕ) → k < l.place → get_or l.seen.blue k 0 ≡ max (get_or l.initial.seen.blue k 0) (get_or l.cut.blue k 0);
  above : (k : ℕ) → l.place ≤ k → get_or l.seen.blue k 0 ≡ get_or l.initial.seen.blue k 0;
  reds : l.seen.reds ≡ l.initial.seen.reds;
}
