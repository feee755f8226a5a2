use Rattle.std.proofs.Common.{length}
use Rattle.sv_interp.proofs.made.+draws.Given as goal

abbrev pub decreases-draws : goal.decreases-draws
decreases-draws l = length l.effects.now
