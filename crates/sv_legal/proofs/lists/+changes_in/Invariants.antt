use Rattle.std.proofs.Common.{length}
use Rattle.sv_legal.proofs.lists.+changes_in.Given as goal

abbrev pub decreases-changes_in : goal.decreases-changes_in
decreases-changes_in l = length l.ops.now
