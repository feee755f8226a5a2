use Rattle.std.proofs.Common.{length}
use Rattle.sv_interp.proofs.inserts.+key_parts.Given as goal

abbrev pub decreases-key_parts : goal.decreases-key_parts
decreases-key_parts l = length l.key.now
