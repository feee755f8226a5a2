use Rattle.sv_app.specs.Schema.{schema_of, rule_of}
use Rattle.sv_check.proofs.LeastBrokenLaws.{one_looked}
use Rattle.sv_check.proofs.least.least_among.Goals as goal

pub loop-key-preserved : goal.loop-key-preserved
loop-key-preserved g c = record {
  looked = one_looked _ _ _ _ _ _ (schema_of c.args.app.now.tables.items) c.args.left.now c.args.table (rule_of c.args.inv.now.body) c.args.keys.now c.loop-key.key-index c.key-item.result
      c.loop-key.found c.with_key-found.result c.in_ok-broken.broken c.loop-key-test.true c.key-item.is c.loop-key.invariant.looked c.in_ok-broken.ensures.followed c.with_key-found.ensures;
  stays = g.met.R.Rows.stays_laws.both _ _ _ c.loop-key.invariant.stays c.in_ok-broken.ensures.asked.stays;
}
