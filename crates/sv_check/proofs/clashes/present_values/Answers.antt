use Rattle.sv_check.proofs.ClashLaws.{one_paired}
use Rattle.sv_check.proofs.clashes.present_values.Goals as goal

pub loop-key-preserved : goal.loop-key-preserved
loop-key-preserved g c = record {
  paired = one_paired _ _ _ _ _ _ c.args.left.now c.args.table c.args.column.now c.args.keys.now c.loop-key.key-index c.key-item.result c.in_ok-value.value c.loop-key.pairs.items c.add_value.new.pairs.items
      c.loop-key-test.true c.key-item.is c.loop-key.invariant.paired c.in_ok-value.ensures.followed c.in_ok-add_value.ensures;
  stays = g.met.R.Rows.stays_laws.both _ _ _ c.loop-key.invariant.stays c.in_ok-value.ensures.asked.stays;
}
