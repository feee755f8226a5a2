use Rattle.std.proofs.Common.{◌≡◌, false, ◌∙◌}
use Rattle.sv_app.specs.Schema.{declaration_of}
use Rattle.sv_effect.specs.RowChange.{cells_from, zero_values}
use Rattle.sv_store.specs.Named.{zero_cells}
use Rattle.sv_store.proofs.CellLaws.{zero_cells_are}
use Rattle.sv_store.proofs.rows.zero_row.Goals as goal

pub returns : goal.returns
returns c =
    let cells : c.zero_cells.result.items ≡ cells_from (declaration_of c.args.table.now).columns (zero_values (declaration_of c.args.table.now) c.args.key.now) =
    c.zero_cells.ensures ∙ (λ i. zero_cells (c.as_slice-2.ensures.value i) c.args.key.now 0 (c.as_slice.ensures.value i)) ∙ zero_cells_are (declaration_of c.args.table.now) c.args.key.now 0 (declaration_of c.args.table.now).columns in
    λ i. record { cells = cells i; mark = record { value = false; stamp = c.zero_stamp.ensures i } }
