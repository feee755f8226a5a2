use Rattle.std.proofs.Common.{◌≡◌, ◌++◌, map, take}
use Rattle.sv_paths.specs.Listing.{taking}
use Rattle.sv_paths.proofs.tests.put_side.Given as goal

abbrev pub invariant-loop-path : goal.invariant-loop-path
invariant-loop-path l = l.out.items ≡ l.fn.out.items ++ map (taking l.choice) (take l.path-index l.side)
