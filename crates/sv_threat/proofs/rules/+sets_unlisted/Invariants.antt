use Rattle.std.proofs.Common.{length}
use Rattle.sv_threat.proofs.rules.+sets_unlisted.Given as goal

abbrev pub decreases-sets_unlisted : goal.decreases-sets_unlisted
decreases-sets_unlisted l = length l.writes.now
