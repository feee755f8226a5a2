use Rattle.sv_store.proofs.CellLaws.{made_more}
use Rattle.sv_store.proofs.rows.cells_from.Goals as goal

pub loop-number-preserved : goal.loop-number-preserved
loop-number-preserved c =
    made_more c.args.columns.now c.args.values.now c.loop-number.number c.loop-number.cells.items c.push.new.self.items c.index-columns-number.result c.index-values-number.result c.cell_from.result
    c.loop-number-test.true c.requires.full c.index-columns-number.is c.index-values-number.is c.loop-number.invariant c.cell_from.ensures.value c.cell_from.ensures.count c.push.ensures.items
