use Rattle.std.proofs.Common.{length}
use Rattle.sv_plain_threats.proofs.plain.+writes_plain.Given as goal

abbrev pub decreases-writes_plain : goal.decreases-writes_plain
decreases-writes_plain l = length l.writes.now
