use Rattle.sv_plain.proofs.HeldLaws.{ops_more}
use Rattle.sv_plain.proofs.changes.put_changes.Goals as goal

pub loop-op-preserved : goal.loop-op-preserved
loop-op-preserved c =
    ops_more c.args.place.now c.args.ops.now c.loop-op.op-index c.op-item.result _ _ _
    c.loop-op-test.true c.op-item.is c.in_ok-put_changes_of.ensures c.loop-op.invariant
