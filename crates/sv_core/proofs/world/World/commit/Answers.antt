use Rattle.std.proofs.Common.{◌-◌, ap, sym, subst, ◌∙◌}
use Rattle.sv_core.specs.Mediums.{doc_of}
use Rattle.sv_core.specs.MediumState.{CanCommit}
use Rattle.sv_core.proofs.GrowLaws.{IsStateAt, by_commit, inboxes_stay, state_at, states_after}
use Rattle.sv_core.proofs.world.World.commit.Goals as goal

pub commit-requires-clause-stands : goal.commit-requires-clause-stands
commit-requires-clause-stands c =
    let m = c.self.inside.medium in
    let can : CanCommit m c.args.p = subst (λ x. CanCommit x.medium c.args.p) (sym c.self.view_is) c.requires in
    (state_at (doc_of m) m.history c.self.inside.sites.items c.args.p.site c.number.result c.index_mut.result.now c.self.invariant c.number.ensures.value can.made.there c.index_mut.ensures.value).stands

pub commit-requires-clause-site : goal.commit-requires-clause-site
commit-requires-clause-site c =
    let m = c.self.inside.medium in
    let can : CanCommit m c.args.p = subst (λ x. CanCommit x.medium c.args.p) (sym c.self.view_is) c.requires in
    sym (state_at (doc_of m) m.history c.self.inside.sites.items c.args.p.site c.number.result c.index_mut.result.now c.self.invariant c.number.ensures.value can.made.there c.index_mut.ensures.value).is

pub invariant_of-self : goal.invariant_of-self
invariant_of-self c =
    let m = c.self.inside.medium in
    let can : CanCommit m c.args.p = subst (λ x. CanCommit x.medium c.args.p) (sym c.self.view_is) c.requires in
    let at : IsStateAt (doc_of m) m.history c.self.inside.sites.items c.args.p.site (c.number.result - 1) c.index_mut.result.now =
    state_at (doc_of m) m.history c.self.inside.sites.items c.args.p.site c.number.result c.index_mut.result.now c.self.invariant c.number.ensures.value can.made.there c.index_mut.ensures.value in
    states_after m c.commit.new.m c.self.inside.sites.items c.args.p.site (c.number.result - 1) c.index_mut.result.now c.commit.new.self c.self.invariant at
    (by_commit m c.args.p c.commit.result c.commit.new.m c.commit.ensures.answer) c.commit.ensures.left

pub returns-clause-inboxes : goal.returns-clause-inboxes
returns-clause-inboxes c =
    let m = c.self.inside.medium in
    let can : CanCommit m c.args.p = subst (λ x. CanCommit x.medium c.args.p) (sym c.self.view_is) c.requires in
    let at : IsStateAt (doc_of m) m.history c.self.inside.sites.items c.args.p.site (c.number.result - 1) c.index_mut.result.now =
    state_at (doc_of m) m.history c.self.inside.sites.items c.args.p.site c.number.result c.index_mut.result.now c.self.invariant c.number.ensures.value can.made.there c.index_mut.ensures.value in
    inboxes_stay c.self.inside.sites.items (c.number.result - 1) c.index_mut.result.now c.commit.new.self at.at c.commit.ensures.inbox ∙ ap (λ x. x.inboxes) c.self.view_is
