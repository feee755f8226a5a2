use Rattle.std.proofs.Common.{◌≡◌, ◌++◌, drop}
use Rattle.std.specs.List.{flat_map}
use Rattle.sv_app.specs.Trees.{transactions_of}
use Rattle.sv_report.specs.CompileText.{group_lines}
use Rattle.sv_report.proofs.compiles.put_groups.Given as goal

abbrev pub invariant-loop-g : goal.invariant-loop-g
invariant-loop-g l =
    l.out.items ++ flat_map (group_lines (transactions_of l.app.txns.items)) (drop l.g l.dict) ≡ l.initial.out.items ++ flat_map (group_lines (transactions_of l.app.txns.items)) l.dict
