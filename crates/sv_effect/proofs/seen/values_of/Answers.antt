use Rattle.sv_effect.proofs.SourceLaws.{tells_more}
use Rattle.sv_effect.proofs.seen.values_of.Goals as goal

pub loop-cell-preserved : goal.loop-cell-preserved
loop-cell-preserved c =
    tells_more c.as_slice-cell-items.result.now c.loop-cell.cell-index c.loop-cell.values.items c.push.new.self.items c.cell-item.result c.value_of.result
    c.loop-cell-test.true c.cell-item.is c.loop-cell.invariant c.value_of.ensures.value c.value_of.ensures.word c.push.ensures.items
