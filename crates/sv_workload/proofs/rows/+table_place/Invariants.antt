use Rattle.std.proofs.Common.{length}
use Rattle.sv_workload.proofs.rows.+table_place.Given as goal

abbrev pub decreases-table_place : goal.decreases-table_place
decreases-table_place l = length l.tables.now
