use Rattle.sv_symbolic.proofs.PlainLaws.{symbols_are_typed}
use Rattle.sv_symbolic.proofs.laws.symbols_are_typed.Goals as goal

pub returns : goal.returns
returns c = symbols_are_typed
