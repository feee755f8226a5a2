use Rattle.sv_report.proofs.RowsOfLaws.{rows_of_law}
use Rattle.sv_report.proofs.laws.rows_are_listed.Goals as goal

pub returns : goal.returns
returns c = rows_of_law
