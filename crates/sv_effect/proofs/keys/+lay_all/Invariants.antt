use Rattle.std.proofs.Common.{length}
use Rattle.sv_effect.proofs.keys.+lay_all.Given as goal

abbrev pub decreases-lay_all : goal.decreases-lay_all
decreases-lay_all l = length l.left.now
