use Rattle.std.proofs.Common.{◌≡◌, ◌++◌, ◌-◌, drop, length, map}
use Rattle.std.specs.List.{flat_map}
use Rattle.sv_linear.specs.Codes.{dropped_of}
use Rattle.sv_report.specs.CompileText.{dropped_line, here, later}
use Rattle.sv_report.proofs.compiles.put_here.Given as goal

abbrev pub invariant-loop-out : goal.invariant-loop-out
invariant-loop-out l = record {
  lines : l.out.items ++ flat_map dropped_line (here l.n (map dropped_of (drop l.at l.dropped))) ≡ l.initial.out.items ++ flat_map dropped_line (here l.n (map dropped_of (drop l.from l.dropped)));
  rest : later l.n (map dropped_of (drop l.at l.dropped)) ≡ later l.n (map dropped_of (drop l.from l.dropped));
}

abbrev pub decreases-loop-out : goal.decreases-loop-out
decreases-loop-out l = length l.dropped - l.at
