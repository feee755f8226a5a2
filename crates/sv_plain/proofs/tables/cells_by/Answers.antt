use Rattle.std.proofs.Common.{sym, ap, subst, ◌∙◌, arith}
use Rattle.sv_effect.specs.Fits.{CountsFit}
use Rattle.sv_effect.specs.TablesOfCut.{writes_to, cell_by}
use Rattle.sv_plain.proofs.QueryLaws.{celled_more, all_celled, counts_push}
use Rattle.sv_plain.proofs.tables.cells_by.Goals as goal

pub loop-number-preserved : goal.loop-number-preserved
loop-number-preserved c = record {
  celled =
      celled_more c.args.columns.now c.args.values.now c.args.gathered.now c.loop-number.number c.loop-number.cells.items c.push.new.self.items c.index-columns-number.result c.index-values-number.result
      c.in_ok-cell.cell (omega (arith, c.loop-number-test.true, c.min-number-end.ensures)) (omega (arith, c.loop-number-test.true, c.min-number-end.ensures))
      c.index-columns-number.is c.index-values-number.is (λ cs gathers. c.in_ok-cell.ensures.value cs gathers ∙ ap (λ x. cell_by x.merge c.index-values-number.result (λ o. writes_to c.loop-number.number (cs o))) (sym c.index-columns-number.is)) c.push.ensures.items c.loop-number.invariant.celled;
  narrow = subst CountsFit (sym c.push.ensures.items) (counts_push c.loop-number.cells.items c.in_ok-cell.cell c.loop-number.invariant.narrow c.in_ok-cell.ensures.narrow);
}

pub returns-clause-value : goal.returns-clause-value
returns-clause-value c =
    all_celled c.args.columns.now c.args.values.now c.args.gathered.now c.loop-number.number c.loop-number.cells.items (omega (arith, c.loop-number-test.false, c.min-number-end.ensures)) c.loop-number.invariant.celled
