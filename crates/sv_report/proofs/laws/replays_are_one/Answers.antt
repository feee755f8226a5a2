use Rattle.sv_report.proofs.OnceLaws.{replays_are_one}
use Rattle.sv_report.proofs.laws.replays_are_one.Goals as goal

pub returns : goal.returns
returns c = replays_are_one
