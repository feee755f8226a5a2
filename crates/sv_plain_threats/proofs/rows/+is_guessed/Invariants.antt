use Rattle.std.proofs.Common.{length}
use Rattle.sv_plain_threats.proofs.rows.+is_guessed.Given as goal

abbrev pub decreases-is_guessed : goal.decreases-is_guessed
decreases-is_guessed l = length l.row.now
