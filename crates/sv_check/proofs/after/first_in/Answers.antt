use Rattle.std.proofs.Common.{◌≤◌, length, arith}
use Rattle.sv_app.specs.Schema.{schema_of}
use Rattle.sv_check.proofs.VerdictLaws.{one_passed, first_found, none_in}
use Rattle.sv_check.proofs.after.first_in.Goals as goal

pub returns-in-Some-clause-followed : goal.returns-in-Some-clause-followed
returns-in-Some-clause-followed g c =
    first_found _ _ _ _ _ _ (schema_of c.args.app.now.tables.items) c.args.left.now c.args.table c.args.invs.now c.loop-inv.inv-index c.inv-item.result c.in_ok-key.field-0 c.in-Some.key c.requires.declared
    c.loop-inv-test.true c.inv-item.is c.loop-inv.invariant.passed c.in_ok-key.ensures.followed c.in-Some.is

pub loop-inv-preserved : goal.loop-inv-preserved
loop-inv-preserved g c = record {
  passed = one_passed _ _ _ _ _ _ (schema_of c.args.app.now.tables.items) c.args.left.now c.args.table c.args.invs.now c.loop-inv.inv-index c.inv-item.result c.in_ok-key.field-0 c.requires.declared
      c.loop-inv-test.true c.inv-item.is c.loop-inv.invariant.passed c.in_ok-key.ensures.followed c.in-None.is;
  stays = g.met.R.Rows.stays_laws.both _ _ _ c.loop-inv.invariant.stays c.in_ok-key.ensures.asked.stays;
}

pub returns-clause-followed : goal.returns-clause-followed
returns-clause-followed g c =
    let le : length c.args.invs.now ≤ c.loop-inv.inv-index = omega (arith, c.loop-inv-test.false) in
    none_in _ _ _ _ (schema_of c.args.app.now.tables.items) c.args.left.now c.args.table c.args.invs.now c.loop-inv.inv-index c.requires.declared le c.loop-inv.invariant.passed
