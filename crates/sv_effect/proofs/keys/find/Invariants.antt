use Rattle.sv_effect.proofs.SpotLaws.{Passes}
use Rattle.sv_effect.proofs.keys.find.Given as goal

abbrev pub invariant-loop-at : goal.invariant-loop-at
invariant-loop-at l = Passes l.key l.keys l.at
