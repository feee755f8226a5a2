use Rattle.std.proofs.Common.{◌≡◌, ◌++◌, drop, slice_get}
use Rattle.std.specs.List.{flat_map}
use Rattle.sv_app.specs.Trees.{transactions_of}
use Rattle.sv_linear.specs.Codes.{left_of}
use Rattle.sv_label.specs.Groups.{group_at}
use Rattle.sv_report.specs.CompileText.{group_lines, path_lines, txn_name}
use Rattle.sv_report.proofs.compiles.put_group.Given as goal

abbrev pub invariant-loop-at : goal.invariant-loop-at
invariant-loop-at l =
    l.out.items ++ flat_map (λ e. path_lines (txn_name (slice_get (transactions_of l.app.txns.items) l.txn)) l.unit e.0 (left_of e.1.left)) (drop l.at (group_at l.dict l.g).templates)
    ≡ l.initial.out.items ++ group_lines (transactions_of l.app.txns.items) (group_at l.dict l.g)
