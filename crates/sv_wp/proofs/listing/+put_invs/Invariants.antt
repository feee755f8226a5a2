use Rattle.std.proofs.Common.{length}
use Rattle.sv_wp.proofs.listing.+put_invs.Given as goal

abbrev pub decreases-put_invs : goal.decreases-put_invs
decreases-put_invs g l = length l.invs.now
