use Rattle.std.proofs.Common.{◌-◌, ap, sym, subst, ◌∙◌}
use Rattle.sv_core.specs.Events.{IsCaught}
use Rattle.sv_core.specs.History.{cut_of}
use Rattle.sv_core.specs.Mediums.{doc_of}
use Rattle.sv_core.specs.Sound.{IsSite}
use Rattle.sv_core.proofs.GrowLaws.{Grows, IsStateAt, by_catch, caught_seen, state_at, states_after}
use Rattle.sv_core.proofs.world.World.catch_up.Goals as goal

pub catch_up-requires : goal.catch_up-requires
catch_up-requires c =
    let m = c.self.inside.medium in
    let there : IsSite (doc_of m) c.args.site = subst (λ x. IsSite (doc_of x.medium) c.args.site) (sym c.self.view_is) c.requires in
    let at : IsStateAt (doc_of m) m.history c.self.inside.sites.items c.args.site (c.number.result - 1) c.index_mut.result.now =
    state_at (doc_of m) m.history c.self.inside.sites.items c.args.site c.number.result c.index_mut.result.now c.self.invariant c.number.ensures.value there c.index_mut.ensures.value in
    at.stands

pub invariant_of-self : goal.invariant_of-self
invariant_of-self c =
    let m = c.self.inside.medium in
    let there : IsSite (doc_of m) c.args.site = subst (λ x. IsSite (doc_of x.medium) c.args.site) (sym c.self.view_is) c.requires in
    let at : IsStateAt (doc_of m) m.history c.self.inside.sites.items c.args.site (c.number.result - 1) c.index_mut.result.now =
    state_at (doc_of m) m.history c.self.inside.sites.items c.args.site c.number.result c.index_mut.result.now c.self.invariant c.number.ensures.value there c.index_mut.ensures.value in
    states_after m c.catch_up.new.m c.self.inside.sites.items c.args.site (c.number.result - 1) c.index_mut.result.now c.catch_up.new.self c.self.invariant at
    (subst (Grows m c.catch_up.new.m) at.is (by_catch m c.index_mut.result.now.site c.catch_up.result c.catch_up.new.m c.catch_up.ensures.caught c.catch_up.ensures.medium)) c.catch_up.ensures.left

pub returns-clause-caught : goal.returns-clause-caught
returns-clause-caught c =
    let m = c.self.inside.medium in
    let there : IsSite (doc_of m) c.args.site = subst (λ x. IsSite (doc_of x.medium) c.args.site) (sym c.self.view_is) c.requires in
    let at : IsStateAt (doc_of m) m.history c.self.inside.sites.items c.args.site (c.number.result - 1) c.index_mut.result.now =
    state_at (doc_of m) m.history c.self.inside.sites.items c.args.site c.number.result c.index_mut.result.now c.self.invariant c.number.ensures.value there c.index_mut.ensures.value in
    subst (λ x. IsCaught x.medium.history c.args.site c.catch_up.result c.catch_up.new.m.history) c.self.view_is
    (subst (λ s. IsCaught m.history s c.catch_up.result c.catch_up.new.m.history) at.is c.catch_up.ensures.caught)

pub returns-clause-world : goal.returns-clause-world
returns-clause-world c =
    let m = c.self.inside.medium in
    let there : IsSite (doc_of m) c.args.site = subst (λ x. IsSite (doc_of x.medium) c.args.site) (sym c.self.view_is) c.requires in
    let at : IsStateAt (doc_of m) m.history c.self.inside.sites.items c.args.site (c.number.result - 1) c.index_mut.result.now =
    state_at (doc_of m) m.history c.self.inside.sites.items c.args.site c.number.result c.index_mut.result.now c.self.invariant c.number.ensures.value there c.index_mut.ensures.value in
    caught_seen c.args.self.now m c.catch_up.new.m c.self.inside.sites.items (c.number.result - 1) c.index_mut.result.now c.catch_up.new.self c.self.view_is at.at c.catch_up.ensures.medium c.catch_up.ensures.inbox

pub returns-clause-whole : goal.returns-clause-whole
returns-clause-whole c =
    let m = c.self.inside.medium in
    let there : IsSite (doc_of m) c.args.site = subst (λ x. IsSite (doc_of x.medium) c.args.site) (sym c.self.view_is) c.requires in
    let at : IsStateAt (doc_of m) m.history c.self.inside.sites.items c.args.site (c.number.result - 1) c.index_mut.result.now =
    state_at (doc_of m) m.history c.self.inside.sites.items c.args.site c.number.result c.index_mut.result.now c.self.invariant c.number.ensures.value there c.index_mut.ensures.value in
    λ o. ap (λ s. cut_of c.catch_up.new.m.history s o) (sym at.is) ∙ c.catch_up.ensures.whole o
