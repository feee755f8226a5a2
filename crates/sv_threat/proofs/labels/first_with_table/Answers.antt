use Rattle.std.proofs.Common.{sym}
use Rattle.sv_app.specs.Schema.{schema_of}
use Rattle.sv_gains.specs.Gains.{noted_in}
use Rattle.sv_threat.proofs.LabelLaws.{narrow_here, some_here, told_here, table_over, table_passed}
use Rattle.sv_threat.proofs.labels.first_with_table.Goals as goal

pub of-requires-clause-narrow : goal.of-requires-clause-narrow
of-requires-clause-narrow c = narrow_here c.args.app.now.tables.items c.args.table c.index.result.now c.requires.accepted c.requires.inside c.index.ensures

pub of-requires-clause-satisfiable : goal.of-requires-clause-satisfiable
of-requires-clause-satisfiable c = some_here c.args.app.now.tables.items c.args.table c.index.result.now c.requires.accepted c.requires.inside c.index.ensures

pub first_of_table-requires-clause-told : goal.first_of_table-requires-clause-told
first_of_table-requires-clause-told c = told_here c.args.app.now.tables.items c.args.table c.index.result.now (noted_in c.in_ok-gains.gains) c.requires.inside c.index.ensures c.in_ok-gains.ensures

pub returns-in_ok-gains : goal.returns-in_ok-gains
returns-in_ok-gains c = table_over (schema_of c.args.app.now.tables.items) c.args.effects.now c.args.table c.first_of_table.result c.first_of_table.ensures

pub returns-else-is_touched : goal.returns-else-is_touched
returns-else-is_touched c =
    table_passed (schema_of c.args.app.now.tables.items) c.args.effects.now c.args.table c.args.held c.is_touched.result c.is_touched.ensures c.if-is_touched.false c.requires.held
