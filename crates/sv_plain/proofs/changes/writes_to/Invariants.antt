use Rattle.std.proofs.Common.{◌≡◌, ◌≤◌, ◌*◌, ◌++◌, drop, length}
use Rattle.std.specs.Prelude.{map}
use Rattle.sv_effect.specs.TablesOfCut.{writes_to}
use Rattle.sv_plain.specs.Held.{change_of, write_of}
use Rattle.sv_plain.proofs.changes.writes_to.Given as goal

abbrev pub invariant-loop-change : goal.invariant-loop-change
invariant-loop-change l = record {
  value : map write_of l.writes.items ++ writes_to l.column (map change_of (drop l.change-index l.changes)) ≡ writes_to l.column (map change_of l.changes);
  few : length l.writes.items ≤ 16 * l.change-index;
}
