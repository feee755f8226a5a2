use Rattle.sv_app.specs.Schema.{schema_of}
use Rattle.sv_symbolic.proofs.LimitLaws.{narrow_at}
use Rattle.sv_symbolic.proofs.tables.table_at.Goals as goal

pub returns-clause-narrow : goal.returns-clause-narrow
returns-clause-narrow c = narrow_at (schema_of c.args.setting.now.tables.now) c.args.number c.found_table.result c.args.setting.now.narrow c.found_table.ensures
