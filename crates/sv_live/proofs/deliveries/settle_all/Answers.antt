use Rattle.sv_core.specs.Mediums.{doc_of, inbox_of}
use Rattle.sv_live.proofs.SettleLaws.{settled_fewer}
use Rattle.sv_live.proofs.deliveries.settle_all.Goals as goal

pub loop-site-smaller : goal.loop-site-smaller
loop-site-smaller c =
    settled_fewer (doc_of c.loop-site.w.medium) c.loop-site.w.medium.history c.settle.new.self.medium.history c.args.site (inbox_of c.loop-site.w c.args.site)
    (inbox_of c.settle.new.self c.args.site) c.settle.result c.settle.ensures.settled c.loop-site-test.ensures
