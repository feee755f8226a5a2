use Rattle.std.proofs.Common.{length}
use Rattle.sv_legal.proofs.lists.+inserts_in.Given as goal

abbrev pub decreases-inserts_in : goal.decreases-inserts_in
decreases-inserts_in l = length l.ops.now
