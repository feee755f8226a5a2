use Rattle.std.proofs.Common.{length}
use Rattle.sv_plain_threats.proofs.checks.+put_sides.Given as goal

abbrev pub decreases-put_sides : goal.decreases-put_sides
decreases-put_sides l = length l.invs.now
