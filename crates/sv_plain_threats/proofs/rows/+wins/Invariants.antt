use Rattle.std.proofs.Common.{length}
use Rattle.sv_plain_threats.proofs.rows.+wins.Given as goal

abbrev pub decreases-wins : goal.decreases-wins
decreases-wins l = length l.row.now
