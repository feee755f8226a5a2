use Rattle.std.proofs.Common.{◌-◌, ap, sym, subst}
use Rattle.sv_core.specs.Mediums.{doc_of}
use Rattle.sv_core.specs.Sound.{IsSite}
use Rattle.sv_core.proofs.GrowLaws.{Grows, IsStateAt, by_settle, settle_seen, settled_seen, state_at, states_after}
use Rattle.sv_core.proofs.world.World.settle.Goals as goal

pub settle-requires : goal.settle-requires
settle-requires c =
    let m = c.self.inside.medium in
    let there : IsSite (doc_of m) c.args.site = subst (λ x. IsSite (doc_of x.medium) c.args.site) (sym c.self.view_is) c.requires in
    let at : IsStateAt (doc_of m) m.history c.self.inside.sites.items c.args.site (c.number.result - 1) c.index_mut.result.now =
    state_at (doc_of m) m.history c.self.inside.sites.items c.args.site c.number.result c.index_mut.result.now c.self.invariant c.number.ensures.value there c.index_mut.ensures.value in
    at.stands

pub invariant_of-self : goal.invariant_of-self
invariant_of-self c =
    let m = c.self.inside.medium in
    let there : IsSite (doc_of m) c.args.site = subst (λ x. IsSite (doc_of x.medium) c.args.site) (sym c.self.view_is) c.requires in
    let at : IsStateAt (doc_of m) m.history c.self.inside.sites.items c.args.site (c.number.result - 1) c.index_mut.result.now =
    state_at (doc_of m) m.history c.self.inside.sites.items c.args.site c.number.result c.index_mut.result.now c.self.invariant c.number.ensures.value there c.index_mut.ensures.value in
    states_after m c.settle.new.m c.self.inside.sites.items c.args.site (c.number.result - 1) c.index_mut.result.now c.settle.new.self c.self.invariant at
    (subst (Grows m c.settle.new.m) at.is (by_settle m c.index_mut.result.now.site c.index_mut.result.now.inbox c.settle.result c.settle.new.self.inbox c.settle.new.m c.settle.ensures.settled c.settle.ensures.medium))
    c.settle.ensures.left

pub returns-clause-settled : goal.returns-clause-settled
returns-clause-settled c =
    let m = c.self.inside.medium in
    let there : IsSite (doc_of m) c.args.site = subst (λ x. IsSite (doc_of x.medium) c.args.site) (sym c.self.view_is) c.requires in
    let at : IsStateAt (doc_of m) m.history c.self.inside.sites.items c.args.site (c.number.result - 1) c.index_mut.result.now =
    state_at (doc_of m) m.history c.self.inside.sites.items c.args.site c.number.result c.index_mut.result.now c.self.invariant c.number.ensures.value there c.index_mut.ensures.value in
    settle_seen c.args.self.now m c.self.inside.sites.items c.args.site (c.number.result - 1) c.index_mut.result.now c.settle.new.self c.settle.result c.settle.new.m.history c.self.view_is at
    (ap (λ n. n - 1) c.number.ensures.value) c.settle.ensures.settled

pub returns-clause-world : goal.returns-clause-world
returns-clause-world c =
    let m = c.self.inside.medium in
    let there : IsSite (doc_of m) c.args.site = subst (λ x. IsSite (doc_of x.medium) c.args.site) (sym c.self.view_is) c.requires in
    let at : IsStateAt (doc_of m) m.history c.self.inside.sites.items c.args.site (c.number.result - 1) c.index_mut.result.now =
    state_at (doc_of m) m.history c.self.inside.sites.items c.args.site c.number.result c.index_mut.result.now c.self.invariant c.number.ensures.value there c.index_mut.ensures.value in
    settled_seen c.args.self.now m c.settle.new.m c.self.inside.sites.items c.args.site (c.number.result - 1) c.index_mut.result.now c.settle.new.self c.self.view_is at.at
    (ap (λ n. n - 1) c.number.ensures.value) c.settle.ensures.medium
