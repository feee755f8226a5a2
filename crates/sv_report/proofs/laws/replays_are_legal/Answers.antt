use Rattle.sv_report.proofs.LegalLaws.{replays_are_legal}
use Rattle.sv_report.proofs.laws.replays_are_legal.Goals as goal

pub returns : goal.returns
returns c = replays_are_legal
