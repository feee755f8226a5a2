use Rattle.std.proofs.Common.{◌≡◌, take}
use Rattle.sv_interp.specs.Turning.{row_turns}
use Rattle.sv_interp.proofs.turns.over_rows.Given as goal

abbrev pub invariant-loop-key : goal.invariant-loop-key
invariant-loop-key l = l.turns ≡ row_turns l.unit l.selection.row.num l.selection.table.num (take l.key-index l.keys)
