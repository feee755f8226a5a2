use Rattle.std.proofs.Common.{length}
use Rattle.sv_legal.proofs.lists.+inserts_of.Given as goal

abbrev pub decreases-inserts_of : goal.decreases-inserts_of
decreases-inserts_of l = length l.effects.now
