use Rattle.std.proofs.Common.{◌≡◌, drop}
use Rattle.std.specs.Prelude.{map}
use Rattle.sv_effect.specs.TablesOfCut.{turns_of, greatest, started}
use Rattle.sv_plain.specs.Held.{change_of, mark_of}
use Rattle.sv_plain.proofs.cells.greatest_mark.Given as goal

abbrev pub invariant-loop-change : goal.invariant-loop-change
invariant-loop-change l = greatest (mark_of l.greatest) (turns_of (map change_of (drop l.change-index l.changes))) ≡ greatest (started l.fn.first) (turns_of (map change_of l.changes))
