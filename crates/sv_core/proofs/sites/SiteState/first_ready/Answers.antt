use Rattle.std.proofs.Common.{rules}
use Rattle.sv_core.proofs.EventLaws.{none_more, none_all}
use Rattle.sv_core.specs.Mediums.{doc_of}
use Rattle.sv_core.proofs.sites.SiteState.first_ready.Goals as goal

pub loop-place-preserved : goal.loop-place-preserved
loop-place-preserved c =
    record { none = none_more (doc_of c.args.m.now) c.args.m.now.history c.args.self.now.site c.loop-place.place c.args.self.now.inbox c.in_ok-packet.packet c.loop-place.invariant.none (search rules) (search rules) }

pub returns : goal.returns
returns c =
    none_all (doc_of c.args.m.now) c.args.m.now.history c.args.self.now.site c.loop-place.place c.args.self.now.inbox c.loop-place.invariant.none (search rules)
