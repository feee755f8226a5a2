use Rattle.sv_plain.proofs.HeldLaws.{changes_more}
use Rattle.sv_plain.proofs.changes.put_changes_of.Goals as goal

pub loop-number-preserved : goal.loop-number-preserved
loop-number-preserved c =
    changes_more c.args.place.now c.args.op.now c.items-effects.result.now c.loop-number.number c.index-effects-number.result c.number.result _ _ _
    c.loop-number-test.true c.index-effects-number.is c.number.ensures.value c.in_ok-put_change.ensures c.loop-number.invariant
