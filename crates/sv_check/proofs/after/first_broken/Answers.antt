use Rattle.std.proofs.Common.{◌≤◌, length, arith}
use Rattle.sv_app.specs.Schema.{schema_of}
use Rattle.sv_check.proofs.TableLaws.{schema_long}
use Rattle.sv_check.proofs.VerdictLaws.{one_table, first_table, no_table_breaks}
use Rattle.sv_check.proofs.after.first_broken.Goals as goal

pub returns-in-Breaks-clause-followed : goal.returns-in-Breaks-clause-followed
returns-in-Breaks-clause-followed g c =
    first_table _ _ _ _ _ _ (schema_of c.args.app.now.tables.items) c.args.left.now c.loop-table.table c.in_ok-inv.field-0 c.in-Breaks.inv c.in-Breaks.key
    c.loop-table.invariant.passed c.in_ok-inv.ensures.followed c.in-Breaks.is

pub loop-table-preserved : goal.loop-table-preserved
loop-table-preserved g c = record {
  passed = one_table _ _ _ _ _ _ (schema_of c.args.app.now.tables.items) c.args.left.now c.loop-table.table c.in_ok-inv.field-0 c.loop-table.invariant.passed c.in_ok-inv.ensures.followed c.in-Keeps.is;
  stays = g.met.R.Rows.stays_laws.both _ _ _ c.loop-table.invariant.stays c.in_ok-inv.ensures.asked.stays;
}

pub returns-clause-followed : goal.returns-clause-followed
returns-clause-followed g c =
    let le : length (schema_of c.args.app.now.tables.items) ≤ c.loop-table.table = omega (arith, c.loop-table-test.false, c.len-table-end.ensures, schema_long c.args.app.now.tables.items) in
    no_table_breaks _ _ _ _ (schema_of c.args.app.now.tables.items) c.args.left.now c.loop-table.table le c.loop-table.invariant.passed
