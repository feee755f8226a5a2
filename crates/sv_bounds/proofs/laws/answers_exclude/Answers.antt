use Rattle.sv_bounds.proofs.ChainLaws.{no_cycle}
use Rattle.sv_bounds.proofs.laws.answers_exclude.Goals as goal

pub returns : goal.returns
returns c = λ rows chain cycle some. no_cycle rows some.0 chain some.1 cycle
