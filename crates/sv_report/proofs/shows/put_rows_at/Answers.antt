use Rattle.std.proofs.Common.{rules, ◌∙◌, ◌++◌}
use Rattle.sv_effect.specs.BareTables.{bare}
use Rattle.sv_report.specs.Shows.{line_at}
use Rattle.sv_report.proofs.ShowLaws.{keys_more}
use Rattle.sv_report.proofs.shows.put_rows_at.Goals as goal

pub loop-key-preserved : goal.loop-key-preserved
loop-key-preserved c = record {
  text = c.in_ok-put_row_at.ensures.line
      ∙ (λ i. c.loop-key.invariant.text i ++ line_at (bare (c.loop-key.invariant.same i).tables) c.args.table c.key-item.result)
      ∙ keys_more c.args.out.now.items (bare c.args.rows.now.store.now.tables) c.args.table c.args.keys.now c.loop-key.key-index c.key-item.result (search rules) (search rules);
  same = c.in_ok-put_row_at.ensures.same ∙ c.loop-key.invariant.same;
}
