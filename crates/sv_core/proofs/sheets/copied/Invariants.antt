use Rattle.std.proofs.Common.{◌≡◌, take}
use Rattle.sv_core.proofs.sheets.copied.Given as goal

abbrev pub invariant-loop-got : goal.invariant-loop-got
invariant-loop-got l = l.values.items ≡ take l.got-index l.got-items
