use Rattle.std.proofs.Common.{◌≡◌, ◌-◌, length}
use Rattle.sv_app.specs.Slots.{with_item}
use Rattle.sv_effect.specs.RunValues.{nothing}
use Rattle.sv_interp.proofs.slots.put_value.Given as goal

abbrev pub invariant-loop-values : goal.invariant-loop-values
invariant-loop-values l = with_item nothing l.number l.val l.values.items ≡ with_item nothing l.number l.val l.fn.values.items

abbrev pub decreases-loop-values : goal.decreases-loop-values
decreases-loop-values l = l.at - length l.values.items
