use Rattle.std.proofs.Common.{length}
use Rattle.sv_wp.proofs.listing.+put_cases.Given as goal

abbrev pub decreases-put_cases : goal.decreases-put_cases
decreases-put_cases g l = length l.cases.now
