use Rattle.sv_app.specs.Schema.{declaration_of}
use Rattle.sv_app.specs.Typing.{no_column}
use Rattle.sv_typing.proofs.NotedLaws.{noted_more}
use Rattle.sv_typing.proofs.columns.note_unknown_keys.Goals as goal

pub loop-name-preserved : goal.loop-name-preserved
loop-name-preserved c =
    noted_more (λ name. no_column (declaration_of c.args.table.now) name) c.args.table.now.key.items c.loop-name.name-index c.name-item.result
    c.args.first.now.held c.loop-name.first.held c.note_no_column.new.first.held
    (rw c.deref-name-items.ensures.value at c.loop-name-test.true) (rw c.deref-name-items.ensures.value at c.name-item.is) c.loop-name.invariant c.note_no_column.ensures
