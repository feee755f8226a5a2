use Rattle.std.proofs.Common.{◌∙◌}
use Rattle.sv_value.specs.Cuts.{counts}
use Rattle.sv_legal.proofs.PastLaws.{cut_fits, cut_more}
use Rattle.sv_legal.proofs.counts.cut_of.Goals as goal

pub add_brought-requires : goal.add_brought-requires
add_brought-requires c =
    cut_fits c.args.history.now c.loop-entry.entry-index c.entry-item.result c.args.site (counts c.loop-entry.cut) c.loop-entry-test.true c.entry-item.is c.loop-entry.invariant c.requires

pub loop-entry-preserved : goal.loop-entry-preserved
loop-entry-preserved c = λ o.
    c.add_brought.ensures o
    ∙ cut_more c.args.history.now c.loop-entry.entry-index c.entry-item.result c.args.site (counts c.loop-entry.cut) c.loop-entry-test.true c.entry-item.is c.loop-entry.invariant o
