use Rattle.std.proofs.Common.{◌≡◌, length}
use Rattle.sv_hub.specs.Extends.{Extends}
use Rattle.sv_core.specs.Mediums.{inbox_of}
use Rattle.sv_live.proofs.deliveries.settle_all.Given as goal

abbrev pub invariant-loop-site : goal.invariant-loop-site
invariant-loop-site l = record {
  grows : Extends l.w.medium.history l.fn.w.medium.history;
  doc : l.w.medium.doc ≡ l.fn.w.medium.doc;
}

abbrev pub decreases-loop-site : goal.decreases-loop-site
decreases-loop-site l = length (inbox_of l.w l.site)
