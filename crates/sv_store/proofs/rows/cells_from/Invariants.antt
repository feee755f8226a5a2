use Rattle.sv_store.proofs.CellLaws.{Made}
use Rattle.sv_store.proofs.rows.cells_from.Given as goal

abbrev pub invariant-loop-number : goal.invariant-loop-number
invariant-loop-number l = Made l.columns l.values l.number l.cells.items
