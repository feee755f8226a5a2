use Rattle.std.proofs.Common.{◌∙◌}
use Rattle.sv_app.specs.Schema.{declaration_of}
use Rattle.sv_effect.proofs.FitLaws.{fit_suits, after_fits}
use Rattle.sv_effect.proofs.changes.apply_row.Goals as goal

-- src/changes.rt:88:5
pub write_all-requires : goal.write_all-requires
write_all-requires c =
    rw c.as_slice.ensures.value (fit_suits (declaration_of c.args.table.now) c.args.stamp c.args.change.now.writes.items c.args.row.now.cells.items c.requires.row c.requires.change.writes c.requires.change.order c.requires.counts)

-- src/changes.rt:87:1
pub returns-in-Insert-clause-fits : goal.returns-in-Insert-clause-fits
returns-in-Insert-clause-fits c = after_fits (declaration_of c.args.table.now) c.args.stamp c.args.change.now.writes.items c.as_slice.result.now c.args.row.now.cells.items c.turn_mark.new.row.cells.items c.requires.row c.requires.change.writes c.as_slice.ensures.value (c.turn_mark.ensures.cells ∙ c.write_all.ensures)

-- src/changes.rt:87:1
pub returns-in-Update-clause-fits : goal.returns-in-Update-clause-fits
returns-in-Update-clause-fits c = after_fits (declaration_of c.args.table.now) c.args.stamp c.args.change.now.writes.items c.as_slice.result.now c.args.row.now.cells.items c.write_all.new.cells.items c.requires.row c.requires.change.writes c.as_slice.ensures.value c.write_all.ensures

-- src/changes.rt:87:1
pub returns-in-Remove-clause-fits : goal.returns-in-Remove-clause-fits
returns-in-Remove-clause-fits c = after_fits (declaration_of c.args.table.now) c.args.stamp c.args.change.now.writes.items c.as_slice.result.now c.args.row.now.cells.items c.turn_mark-in-Remove.new.row.cells.items c.requires.row c.requires.change.writes c.as_slice.ensures.value (c.turn_mark-in-Remove.ensures.cells ∙ c.write_all.ensures)
