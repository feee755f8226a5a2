use Rattle.sv_workload.proofs.OnceLaws.{refused_once}
use Rattle.sv_workload.proofs.laws.refused_once.Goals as goal

pub returns : goal.returns
returns c = refused_once
