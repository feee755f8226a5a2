use Rattle.std.proofs.Common.{◌≡◌, ◌++◌, drop, map}
use Rattle.sv_linear.specs.Codes.{dropped_of, kept_of}
use Rattle.sv_report.specs.CompileText.{lines_from}
use Rattle.sv_report.proofs.compiles.put_listed.Given as goal

abbrev pub invariant-loop-n : goal.invariant-loop-n
invariant-loop-n l = l.out.items ++ lines_from l.n (map kept_of (drop l.n l.kept)) (map dropped_of (drop l.at l.dropped)) ≡ l.initial.out.items ++ lines_from 0 (map kept_of l.kept) (map dropped_of l.dropped)
