use Rattle.std.proofs.Common.{◌≡◌, ◌≤◌, ◌+◌, ◌++◌, drop, length}
use Rattle.std.specs.Prelude.{map}
use Rattle.sv_effect.specs.TablesOfCut.{to_column}
use Rattle.sv_plain.specs.Held.{write_of}
use Rattle.sv_plain.proofs.changes.put_writes.Given as goal

abbrev pub invariant-loop-number : goal.invariant-loop-number
invariant-loop-number l = record {
  value :
      map write_of l.writes.items ++ to_column l.column l.change.stamp (drop l.number-index l.number-items)
      ≡ map write_of l.initial.writes.items ++ to_column l.column l.change.stamp l.number-items;
  few : length l.writes.items ≤ length l.initial.writes.items + l.number-index;
}
