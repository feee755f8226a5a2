use Rattle.sv_app.specs.declared.refusals.Code.TheVariants.{Typing}
use Rattle.sv_app.specs.Schema.{declaration_of}
use Rattle.sv_app.specs.Typing.{fault_if, is_merged_wrong}
use Rattle.sv_typing.proofs.NotedLaws.{noted_more}
use Rattle.sv_typing.proofs.columns.note_merges.Goals as goal

pub loop-column-preserved : goal.loop-column-preserved
loop-column-preserved c =
    noted_more (λ column. fault_if (is_merged_wrong (declaration_of c.args.table.now) column) column.name.spot Typing) c.args.table.now.columns.items
    c.loop-column.column-index c.column-item.result c.args.first.now.held c.loop-column.first.held c.note_if.new.self.held
    (rw c.deref-column-items.ensures.value at c.loop-column-test.true) (rw c.deref-column-items.ensures.value at c.column-item.is) c.loop-column.invariant
    (rw (← c.is_merged_wrong.ensures) c.note_if.ensures)
