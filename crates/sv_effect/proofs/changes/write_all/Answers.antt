use Rattle.sv_effect.proofs.WriteLaws.{step_suits, step_made, made_all}
use Rattle.sv_effect.proofs.changes.write_all.Goals as goal

-- src/changes.rt:62:5
pub loop-column-preserved : goal.loop-column-preserved
loop-column-preserved c = record {
  suits = step_suits c.args.stamp c.loop-column.cells.items c.write_at.new.cells.items c.args.writes.now c.loop-column.column-index c.loop-column-item.result c.loop-column-test.true c.loop-column.invariant.suits c.loop-column-item.is c.write_at.ensures;
  left = step_made c.args.stamp c.loop-column.cells.items c.write_at.new.cells.items _ c.args.writes.now c.loop-column.column-index c.loop-column-item.result c.loop-column-test.true c.loop-column.invariant.left c.loop-column-item.is c.write_at.ensures;
}

-- src/changes.rt:58:1
pub returns : goal.returns
returns c = made_all c.args.stamp c.loop-column.cells.items _ c.args.writes.now c.loop-column.column-index c.loop-column-test.false c.loop-column.invariant.left
