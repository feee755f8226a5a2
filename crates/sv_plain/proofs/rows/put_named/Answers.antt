use Rattle.sv_plain.proofs.RowsLaws.{op_named}
use Rattle.sv_plain.proofs.rows.put_named.Goals as goal

pub loop-op-preserved : goal.loop-op-preserved
loop-op-preserved c =
    op_named c.args.ops.now c.loop-op.op-index c.op-item.result c.items.result.now _ _ _
    c.loop-op-test.true c.op-item.is c.items.ensures c.in_ok-put_places_of.ensures c.loop-op.invariant
