use Rattle.std.proofs.Common.{length}
use Rattle.sv_plain.proofs.tables.+from_key.Given as goal

abbrev pub decreases-from_key : goal.decreases-from_key
decreases-from_key l = length l.names.now
