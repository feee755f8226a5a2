use Rattle.std.proofs.Common.{◌≡◌, ◌-◌, length}
use Rattle.sv_app.specs.declared.schemas.Ty.TheVariants as types
use Rattle.sv_app.specs.Slots.{with_item}
use Rattle.sv_symbolic.proofs.names.put_type.Given as goal

abbrev pub invariant-loop-types : goal.invariant-loop-types
invariant-loop-types l = with_item types.Int l.number l.ty l.types.items ≡ with_item types.Int l.number l.ty l.fn.types.items

abbrev pub decreases-loop-types : goal.decreases-loop-types
decreases-loop-types l = l.at - length l.types.items
