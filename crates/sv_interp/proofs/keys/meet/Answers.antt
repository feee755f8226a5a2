use Rattle.sv_app.specs.Trees.{test_of}
use Rattle.sv_interp.proofs.MeetLaws.{one_judged, key_leaves}
use Rattle.sv_interp.proofs.keys.meet.Goals as goal

pub returns-in_default-clause-followed : goal.returns-in_default-clause-followed
returns-in_default-clause-followed g c =
    key_leaves c.args.filter.now.own.now c.args.filter.now.row c.args.filter.now.table (test_of c.args.filter.now.test.now) c.args.keys.now c.loop-key.met c.loop-key.key-index c.key-item.result _ _ _ _ _ _
    c.args.scope.now c.loop-key.scope c.meets.new.scope c.in_ok-holds.field-0 c.loop-key.invariant.judged c.loop-key-test.true c.key-item.is c.in_ok-holds.ensures.followed c.in_default.is

pub loop-key-preserved : goal.loop-key-preserved
loop-key-preserved g c = record {
  judged = one_judged c.args.filter.now.own.now c.args.filter.now.row c.args.filter.now.table (test_of c.args.filter.now.test.now) c.args.keys.now c.loop-key.met c.put_if.new.keys c.loop-key.key-index c.key-item.result _ _ _ _ _ _
      c.args.scope.now c.loop-key.scope c.meets.new.scope c.in_ok-holds.field-0 c.in-Some.holds c.loop-key.invariant.judged c.loop-key-test.true c.key-item.is c.in_ok-holds.ensures.followed c.in-Some.is c.in_ok-put_if.ensures;
  stays = g.met.R.Rows.stays_laws.both _ _ _ c.loop-key.invariant.stays c.in_ok-holds.ensures.asked.stays;
}
