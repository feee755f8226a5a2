use Rattle.std.proofs.Common.{rules, ap, refl}
use Rattle.sv_core.proofs.EventLaws.{settled_one}
use Rattle.sv_core.proofs.sites.SiteState.settle.Goals as goal

pub returns-clause-settled : goal.returns-clause-settled
returns-clause-settled c = (
  settled_one c.args.m.now c.args.self.now c.args.self.now.inbox c.forget.new.self c.apply.new.self.inbox c.in_ok-place.place c.in_ok-packet.packet c.args.self.now.cut c.requires refl c.forget.ensures
      (search rules) (search rules) (search rules),
  ap (λ m. m.history) c.apply.ensures.medium,
)
