use Rattle.std.proofs.Common.{◌∙◌, ap, slice_index_or}
use Rattle.sv_effect.specs.RowChange.{written}
use Rattle.sv_effect.proofs.WriteLaws.{refill_set, lands}
use Rattle.sv_effect.proofs.changes.write_at.Goals as goal

-- src/changes.rt:54:5
pub returns : goal.returns
returns c =
    rw c.deref_mut.ensures.value (
    refill_set c.args.cells.now.items c.args.column c.write_cell.result
    ∙ lands c.args.cells.now.items c.args.column c.args.write (written c.args.stamp c.args.write) c.write_cell.result c.index-deref-place.result c.requires
    (c.write_cell.ensures ∙ ap (written c.args.stamp c.args.write) (c.index-deref-place.is ∙ ap (λ l. slice_index_or l c.args.column c.index-deref-place.result) c.deref.ensures.0))
    )
