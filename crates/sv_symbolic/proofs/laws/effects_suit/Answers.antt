use Rattle.sv_symbolic.proofs.SuitLaws.{effects_suit}
use Rattle.sv_symbolic.proofs.laws.effects_suit.Goals as goal

pub returns : goal.returns
returns c = effects_suit
