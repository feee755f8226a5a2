use Rattle.std.proofs.Common.{◌≡◌, ◌++◌, length, drop}
use Rattle.sv_store.specs.Named.{zero_cells}
use Rattle.sv_store.proofs.rows.zero_cells.Given as goal

abbrev pub invariant-loop-number : goal.invariant-loop-number
invariant-loop-number l = record {
  long : length l.cells.items ≡ l.number;
  rest : l.cells.items ++ zero_cells l.names l.key l.number (drop l.number l.columns) ≡ zero_cells l.names l.key 0 l.columns;
}
