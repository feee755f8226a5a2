use Rattle.std.proofs.Common.{◌≡◌, ◌-◌, length}
use Rattle.sv_app.specs.Slots.{with_item}
use Rattle.sv_symbolic.proofs.names.put_table.Given as goal

abbrev pub invariant-loop-tables : goal.invariant-loop-tables
invariant-loop-tables l = with_item 0 l.number l.table l.tables.items ≡ with_item 0 l.number l.table l.fn.tables.items

abbrev pub decreases-loop-tables : goal.decreases-loop-tables
decreases-loop-tables l = l.at - length l.tables.items
