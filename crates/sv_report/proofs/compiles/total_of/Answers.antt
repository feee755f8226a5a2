use Rattle.std.proofs.Common.{rules, arith}
use Rattle.sv_label.specs.Groups.{group_at}
use Rattle.sv_report.specs.Counting.{counting}
use Rattle.sv_report.proofs.PrintedLaws.{next_total}
use Rattle.sv_report.proofs.compiles.total_of.Goals as goal

pub loop-at-preserved : goal.loop-at-preserved
loop-at-preserved c = record {
  rest = omega (
    arith,
    c.loop-at.invariant.rest,
    c.count_in.ensures,
    next_total (counting c.args.what.now) (group_at c.args.dict.now c.args.g).templates c.loop-at.at c.template.result.now (search rules) c.template.ensures,
  );
  few = search rules;
}
