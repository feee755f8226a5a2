use Rattle.std.proofs.Common.{length}
use Rattle.sv_plain_threats.proofs.threats.+any_table.Given as goal

abbrev pub decreases-any_table : goal.decreases-any_table
decreases-any_table l = length l.tables.now
