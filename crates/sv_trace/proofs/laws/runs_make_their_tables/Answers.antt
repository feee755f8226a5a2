use Rattle.sv_trace.proofs.MakeLaws.{runs_make_their_tables}
use Rattle.sv_trace.proofs.laws.runs_make_their_tables.Goals as goal

pub returns : goal.returns
returns c = runs_make_their_tables
