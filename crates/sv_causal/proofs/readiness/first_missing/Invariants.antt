use Rattle.std.proofs.Common.{◌≡◌, length}
use Rattle.sv_value.proofs.Below.{Below}
use Rattle.sv_causal.proofs.readiness.first_missing.Given as goal

abbrev pub invariant-loop-place : goal.invariant-loop-place
invariant-loop-place l = record { long : length l.deps.blue ≡ 8; below : Below l.deps.blue l.cut.blue l.place }
