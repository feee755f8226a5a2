use Rattle.std.proofs.Common.{length}
use Rattle.sv_symbolic.proofs.loops.+known_after.Given as goal

abbrev pub decreases-known_after : goal.decreases-known_after
decreases-known_after l = length l.known.now
