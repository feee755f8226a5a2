use Rattle.std.proofs.Common.{◌≡◌, ◌++◌, drop, map}
use Rattle.std.specs.List.{flat_map}
use Rattle.sv_linear.specs.Codes.{dropped_of}
use Rattle.sv_report.specs.CompileText.{dropped_line}
use Rattle.sv_report.proofs.compiles.put_drops.Given as goal

abbrev pub invariant-loop-at : goal.invariant-loop-at
invariant-loop-at l = l.out.items ++ flat_map dropped_line (map dropped_of (drop l.at l.dropped)) ≡ l.initial.out.items ++ flat_map dropped_line (map dropped_of (drop l.from l.dropped))
