use Rattle.std.proofs.Common.{◌≡◌, ◌-◌, length, pos}
use Rattle.sv_app.specs.declared.gots.Got.TheVariants as gots
use Rattle.sv_app.specs.Slots.{with_item}
use Rattle.sv_effect.proofs.values.put_got.Given as goal

abbrev pub invariant-loop-row : goal.invariant-loop-row
invariant-loop-row l = with_item (gots.Num (pos 0)) l.number l.got l.row.items ≡ with_item (gots.Num (pos 0)) l.number l.got l.fn.row.items

abbrev pub decreases-loop-row : goal.decreases-loop-row
decreases-loop-row l = l.at - length l.row.items
