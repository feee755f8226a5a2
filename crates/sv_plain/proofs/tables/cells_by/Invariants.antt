use Rattle.sv_effect.specs.Fits.{CountsFit}
use Rattle.sv_plain.proofs.QueryLaws.{Celled}
use Rattle.sv_plain.proofs.tables.cells_by.Given as goal

abbrev pub invariant-loop-number : goal.invariant-loop-number
invariant-loop-number l = record {
  celled : Celled l.columns l.values l.gathered l.number l.cells.items;
  narrow : CountsFit l.cells.items;
}
