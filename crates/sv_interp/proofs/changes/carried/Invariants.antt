use Rattle.std.proofs.Common.{◌≡◌, take}
use Rattle.sv_interp.proofs.changes.carried.Given as goal

abbrev pub invariant-loop-write : goal.invariant-loop-write
invariant-loop-write l = l.carried.items ≡ take l.write-index l.writes
