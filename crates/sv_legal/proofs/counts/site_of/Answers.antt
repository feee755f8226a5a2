use Rattle.std.proofs.Common.{◌∙◌}
use Rattle.sv_core.specs.Document.{document_of}
use Rattle.sv_legal.proofs.PastLaws.{site_more}
use Rattle.sv_legal.proofs.counts.site_of.Goals as goal

pub loop-entry-preserved : goal.loop-entry-preserved
loop-entry-preserved c =
    c.site_behind-place.ensures
    ∙ site_more (document_of c.args.doc.now) c.args.history.now c.loop-entry.entry-index c.entry-item.result c.args.session c.loop-entry.place c.loop-entry-test.true c.entry-item.is c.loop-entry.invariant
