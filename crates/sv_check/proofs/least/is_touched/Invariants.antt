use Rattle.std.proofs.Common.{◌≡◌, drop}
use Rattle.sv_check.specs.Least.{is_touched}
use Rattle.sv_check.proofs.least.is_touched.Given as goal

abbrev pub invariant-loop-place : goal.invariant-loop-place
invariant-loop-place l = is_touched (drop l.place-index l.left) l.table ≡ is_touched l.left l.table
