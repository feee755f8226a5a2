use Rattle.std.proofs.Common.{◌≡◌, drop}
use Rattle.sv_check.specs.Left.{is_left}
use Rattle.sv_check.proofs.broken.is_left.Given as goal

abbrev pub invariant-loop-other : goal.invariant-loop-other
invariant-loop-other l = is_left l.place (drop l.other-index l.left) ≡ is_left l.place l.left
