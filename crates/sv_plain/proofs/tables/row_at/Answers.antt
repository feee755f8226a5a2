use Rattle.sv_app.specs.Schema.{schema_of}
use Rattle.sv_plain.proofs.QueryLaws.{few_columns}
use Rattle.sv_plain.proofs.tables.row_at.Goals as goal

pub row_by-requires-clause-columns : goal.row_by-requires-clause-columns
row_by-requires-clause-columns c = few_columns (schema_of c.args.app.now.tables.items) c.args.place.now c.columns_in.result.now c.requires.narrow c.columns_in.ensures
