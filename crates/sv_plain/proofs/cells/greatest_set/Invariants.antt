use Rattle.std.proofs.Common.{◌≡◌, drop}
use Rattle.std.specs.Prelude.{map}
use Rattle.sv_effect.specs.TablesOfCut.{sets_of, greatest, started}
use Rattle.sv_plain.specs.Held.{write_of, val_of}
use Rattle.sv_plain.proofs.cells.greatest_set.Given as goal

abbrev pub invariant-loop-held : goal.invariant-loop-held
invariant-loop-held l = greatest (val_of l.greatest) (sets_of (map write_of (drop l.held-index l.writes))) ≡ greatest (started l.fn.first) (sets_of (map write_of l.writes))
