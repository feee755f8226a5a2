use Rattle.std.proofs.Common.{length}
use Rattle.sv_plain_threats.proofs.plain.+is_plain_column.Given as goal

abbrev pub decreases-is_plain_column : goal.decreases-is_plain_column
decreases-is_plain_column l = length l.columns.now
