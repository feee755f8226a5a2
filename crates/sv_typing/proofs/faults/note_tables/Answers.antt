use Rattle.sv_app.specs.Schema.{declaration_of, schema_of}
use Rattle.sv_app.specs.Typing.{table_faults}
use Rattle.sv_typing.proofs.NotedLaws.{noted_mapped}
use Rattle.sv_typing.proofs.faults.note_tables.Goals as goal

pub loop-table-preserved : goal.loop-table-preserved
loop-table-preserved c =
    noted_mapped declaration_of (λ t. table_faults (schema_of c.args.tables.now) t) c.args.tables.now
    c.loop-table.table-index c.table-item.result c.args.first.now.held c.loop-table.first.held c.note_table.new.first.held
    c.loop-table-test.true c.table-item.is c.loop-table.invariant c.note_table.ensures
