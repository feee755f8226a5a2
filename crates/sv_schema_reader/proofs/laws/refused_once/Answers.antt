use Rattle.sv_schema_reader.proofs.OnceLaws.{refused_once}
use Rattle.sv_schema_reader.proofs.laws.refused_once.Goals as goal

pub returns : goal.returns
returns c = refused_once
