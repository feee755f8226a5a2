use Rattle.sv_effect.proofs.SourceLaws.{Tells}
use Rattle.sv_effect.proofs.seen.values_of.Given as goal

abbrev pub invariant-loop-cell : goal.invariant-loop-cell
invariant-loop-cell l = Tells l.cell-items l.cell-index l.values.items
