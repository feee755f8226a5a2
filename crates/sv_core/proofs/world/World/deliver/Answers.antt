use Rattle.std.proofs.Common.{◌-◌, ap, sym, subst}
use Rattle.sv_core.specs.Mediums.{doc_of}
use Rattle.sv_core.specs.Sound.{IsSite}
use Rattle.sv_core.proofs.GrowLaws.{Grows, IsStateAt, by_delivery, delivered_seen, delivery_seen, state_at, states_after}
use Rattle.sv_core.proofs.world.World.deliver.Goals as goal

pub deliver-requires : goal.deliver-requires
deliver-requires c =
    let m = c.self.inside.medium in
    let there : IsSite (doc_of m) c.args.site = subst (λ x. IsSite (doc_of x.medium) c.args.site) (sym c.self.view_is) c.requires in
    let at : IsStateAt (doc_of m) m.history c.self.inside.sites.items c.args.site (c.number.result - 1) c.index_mut.result.now =
    state_at (doc_of m) m.history c.self.inside.sites.items c.args.site c.number.result c.index_mut.result.now c.self.invariant c.number.ensures.value there c.index_mut.ensures.value in
    at.stands

pub invariant_of-self : goal.invariant_of-self
invariant_of-self c =
    let m = c.self.inside.medium in
    let there : IsSite (doc_of m) c.args.site = subst (λ x. IsSite (doc_of x.medium) c.args.site) (sym c.self.view_is) c.requires in
    let at : IsStateAt (doc_of m) m.history c.self.inside.sites.items c.args.site (c.number.result - 1) c.index_mut.result.now =
    state_at (doc_of m) m.history c.self.inside.sites.items c.args.site c.number.result c.index_mut.result.now c.self.invariant c.number.ensures.value there c.index_mut.ensures.value in
    states_after m c.deliver.new.m c.self.inside.sites.items c.args.site (c.number.result - 1) c.index_mut.result.now c.deliver.new.self c.self.invariant at
    (subst (Grows m c.deliver.new.m) at.is (by_delivery m c.index_mut.result.now.site c.args.packet c.deliver.result c.deliver.new.m c.deliver.ensures.medium)) c.deliver.ensures.left

pub returns-clause-answer : goal.returns-clause-answer
returns-clause-answer c =
    let m = c.self.inside.medium in
    let there : IsSite (doc_of m) c.args.site = subst (λ x. IsSite (doc_of x.medium) c.args.site) (sym c.self.view_is) c.requires in
    let at : IsStateAt (doc_of m) m.history c.self.inside.sites.items c.args.site (c.number.result - 1) c.index_mut.result.now =
    state_at (doc_of m) m.history c.self.inside.sites.items c.args.site c.number.result c.index_mut.result.now c.self.invariant c.number.ensures.value there c.index_mut.ensures.value in
    delivery_seen c.args.self.now m c.self.inside.sites.items c.args.site (c.number.result - 1) c.index_mut.result.now c.args.packet c.deliver.result c.self.view_is at c.deliver.ensures.answer

pub returns-clause-world : goal.returns-clause-world
returns-clause-world c =
    let m = c.self.inside.medium in
    let there : IsSite (doc_of m) c.args.site = subst (λ x. IsSite (doc_of x.medium) c.args.site) (sym c.self.view_is) c.requires in
    let at : IsStateAt (doc_of m) m.history c.self.inside.sites.items c.args.site (c.number.result - 1) c.index_mut.result.now =
    state_at (doc_of m) m.history c.self.inside.sites.items c.args.site c.number.result c.index_mut.result.now c.self.invariant c.number.ensures.value there c.index_mut.ensures.value in
    delivered_seen c.args.self.now m c.deliver.new.m c.self.inside.sites.items c.args.site (c.number.result - 1) c.index_mut.result.now c.deliver.new.self c.args.packet c.deliver.result c.self.view_is at
    (ap (λ n. n - 1) c.number.ensures.value) c.deliver.ensures.medium c.deliver.ensures.inbox
