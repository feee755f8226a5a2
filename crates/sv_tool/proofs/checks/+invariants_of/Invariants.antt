use Rattle.std.proofs.Common.{length}
use Rattle.sv_tool.proofs.checks.+invariants_of.Given as goal

abbrev pub decreases-invariants_of : goal.decreases-invariants_of
decreases-invariants_of l = length l.tables.now
