use Rattle.std.proofs.Common.{◌≡◌, take}
use Rattle.sv_interp.specs.Turning.{item_turns}
use Rattle.sv_interp.proofs.turns.over_items.Given as goal

abbrev pub invariant-loop-val : goal.invariant-loop-val
invariant-loop-val l = l.turns ≡ item_turns l.unit l.var (take l.val-index l.vals)
