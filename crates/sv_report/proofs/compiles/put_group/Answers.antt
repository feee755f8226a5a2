use Rattle.std.proofs.Common.{rules, slice_get}
use Rattle.sv_app.specs.Trees.{transactions_of}
use Rattle.sv_linear.specs.Codes.{left_of}
use Rattle.sv_label.specs.Groups.{group_at}
use Rattle.sv_report.specs.CompileText.{path_lines, txn_name}
use Rattle.sv_report.proofs.PrintedLaws.{printed, next_entry}
use Rattle.sv_report.proofs.compiles.put_group.Goals as goal

pub loop-at-preserved : goal.loop-at-preserved
loop-at-preserved c =
    printed (λ e. path_lines (txn_name (slice_get (transactions_of c.args.app.now.txns.items) c.group-txn.result.0)) c.group-txn.result.1 e.0 (left_of e.1.left))
    c.loop-at.out.items c.put_path.new.out.items _ (c.choices.result.now, c.template.result.now) _ _
    (next_entry (group_at c.args.dict.now c.args.g).templates c.loop-at.at c.choices.result.now c.template.result.now (search rules) c.choices.ensures c.template.ensures)
    c.in_ok-put_path.ensures c.loop-at.invariant
