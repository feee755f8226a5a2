use Rattle.std.proofs.Common.{◌≡◌, ◌+◌, ◌*◌, ◌≤◌, drop}
use Rattle.sv_report.specs.CompileText.{total_in}
use Rattle.sv_report.specs.Counting.{counting}
use Rattle.sv_report.proofs.compiles.total_in.Given as goal

abbrev pub invariant-loop-g : goal.invariant-loop-g
invariant-loop-g l = record {
  rest : l.total + total_in (counting l.what) (drop l.g l.dict) ≡ total_in (counting l.what) l.dict;
  few : l.total ≤ l.g * 79228162514264337593543950336;
}
