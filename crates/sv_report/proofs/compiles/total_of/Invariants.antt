use Rattle.std.proofs.Common.{◌≡◌, ◌+◌, ◌*◌, ◌≤◌, drop}
use Rattle.sv_label.specs.Groups.{group_at}
use Rattle.sv_report.specs.CompileText.{total_of}
use Rattle.sv_report.specs.Counting.{counting}
use Rattle.sv_report.proofs.compiles.total_of.Given as goal

abbrev pub invariant-loop-at : goal.invariant-loop-at
invariant-loop-at l = record {
  rest : l.total + total_of (counting l.what) (drop l.at (group_at l.dict l.g).templates) ≡ total_of (counting l.what) (group_at l.dict l.g).templates;
  few : l.total ≤ l.at * 18446744073709551616;
}
