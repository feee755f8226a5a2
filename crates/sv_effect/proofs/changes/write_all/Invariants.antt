use Rattle.std.proofs.Common.{◌≡◌, drop}
use Rattle.sv_effect.specs.RowChange.{made, each}
use Rattle.sv_effect.specs.Suits.{AllSuit}
use Rattle.sv_effect.proofs.changes.write_all.Given as goal

abbrev pub invariant-loop-column : goal.invariant-loop-column
invariant-loop-column l = record {
  suits : AllSuit l.stamp l.cells.items (drop l.column-index l.writes);
  left : each (λ c. made l.stamp c (drop l.column-index l.writes)) 0 l.cells.items ≡ each (λ c. made l.stamp c l.writes) 0 l.initial.cells.items;
}
