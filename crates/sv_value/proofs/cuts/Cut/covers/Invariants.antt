use Rattle.std.proofs.Common.{◌≡◌, length}
use Rattle.sv_value.proofs.Below.{Below}
use Rattle.sv_value.proofs.cuts.Cut.covers.Given as goal

abbrev pub invariant-loop-place : goal.invariant-loop-place
invariant-loop-place l = record { long : length l.other.blue ≡ 8; below : Below l.other.blue l.self.blue l.place }
