use Rattle.std.proofs.Common.{◌≡◌, ◌+◌, ◌*◌, ◌^◌, drop}
use Rattle.std.specs.Prelude.{◌+ℤ◌, map}
use Rattle.sv_effect.specs.TablesOfCut.{sum_of}
use Rattle.sv_plain.specs.Held.{write_of, IsWithin}
use Rattle.sv_plain.proofs.cells.sum_of.Given as goal

abbrev pub invariant-loop-held : goal.invariant-loop-held
invariant-loop-held l = record {
  rest : (l.sum +ℤ sum_of (map write_of (drop l.held-index l.writes))) ≡ sum_of (map write_of l.writes);
  bounded : IsWithin (l.held-index * 2 ^ 63) l.sum;
}
