use Rattle.std.proofs.Common.{◌≡◌, drop}
use Rattle.sv_check.specs.Least.{has_absent}
use Rattle.sv_check.proofs.broken.has_absent.Given as goal

abbrev pub invariant-loop-place : goal.invariant-loop-place
invariant-loop-place l = has_absent (drop l.place-index l.left) l.table ≡ has_absent l.left l.table
