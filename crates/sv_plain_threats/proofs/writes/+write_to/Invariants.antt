use Rattle.std.proofs.Common.{length}
use Rattle.sv_plain_threats.proofs.writes.+write_to.Given as goal

abbrev pub decreases-write_to : goal.decreases-write_to
decreases-write_to l = length l.writes.now
