use Rattle.std.proofs.Common.{length}
use Rattle.sv_interp.proofs.inserts.+inserts.Given as goal

abbrev pub decreases-inserts : goal.decreases-inserts
decreases-inserts l = length l.columns.now
