use Rattle.std.proofs.Common.{◌≡◌, ◌-◌, length, []}
use Rattle.sv_app.specs.Slots.{with_item}
use Rattle.sv_interp.proofs.slots.put_row.Given as goal

abbrev pub invariant-loop-alloc : goal.invariant-loop-alloc
invariant-loop-alloc l = with_item [] l.number l.fn.row l.rows.items ≡ with_item [] l.number l.fn.row l.fn.rows.items

abbrev pub decreases-loop-alloc : goal.decreases-loop-alloc
decreases-loop-alloc l = l.at - length l.rows.items
