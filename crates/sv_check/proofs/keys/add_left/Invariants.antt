use Rattle.std.proofs.Common.{◌≡◌, ◌||◌, take}
use Rattle.sv_value.specs.declared.values.Key.{Key}
use Rattle.sv_app.specs.Valid.{place_at}
use Rattle.sv_check.specs.Left.{is_left}
use Rattle.sv_check.specs.Least.{has_key}
use Rattle.sv_check.proofs.keys.add_left.Given as goal

abbrev pub invariant-loop-place : goal.invariant-loop-place
invariant-loop-place l = (key : Key) → has_key key l.keys.items ≡ (has_key key l.fn.keys.items || is_left (place_at l.table key) (take l.place-index l.left))
