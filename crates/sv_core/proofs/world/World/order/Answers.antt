use Rattle.std.proofs.Common.{◌-◌, ap, sym, subst, ◌∙◌}
use Rattle.sv_core.specs.Mediums.{doc_of}
use Rattle.sv_core.proofs.GrowLaws.{Grows, IsStateAt, by_order, inboxes_stay, state_at, states_after}
use Rattle.sv_core.proofs.world.World.order.Goals as goal

pub order-requires-clause-stands : goal.order-requires-clause-stands
order-requires-clause-stands c =
    let m = c.self.inside.medium in
    let at : IsStateAt (doc_of m) m.history c.self.inside.sites.items c.site_of.result (c.number.result - 1) c.index_mut.result.now =
    state_at (doc_of m) m.history c.self.inside.sites.items c.site_of.result c.number.result c.index_mut.result.now c.self.invariant c.number.ensures.value c.site_of.ensures.there c.index_mut.ensures.value in
    at.stands

pub order-requires-clause-lives : goal.order-requires-clause-lives
order-requires-clause-lives c =
    let m = c.self.inside.medium in
    let at : IsStateAt (doc_of m) m.history c.self.inside.sites.items c.site_of.result (c.number.result - 1) c.index_mut.result.now =
    state_at (doc_of m) m.history c.self.inside.sites.items c.site_of.result c.number.result c.index_mut.result.now c.self.invariant c.number.ensures.value c.site_of.ensures.there c.index_mut.ensures.value in
    at.is ∙ c.site_of.ensures.site

pub invariant_of-self : goal.invariant_of-self
invariant_of-self c =
    let m = c.self.inside.medium in
    let at : IsStateAt (doc_of m) m.history c.self.inside.sites.items c.site_of.result (c.number.result - 1) c.index_mut.result.now =
    state_at (doc_of m) m.history c.self.inside.sites.items c.site_of.result c.number.result c.index_mut.result.now c.self.invariant c.number.ensures.value c.site_of.ensures.there c.index_mut.ensures.value in
    states_after m c.order.new.m c.self.inside.sites.items c.site_of.result (c.number.result - 1) c.index_mut.result.now c.order.new.self c.self.invariant at
    (subst (Grows m c.order.new.m) (sym c.site_of.ensures.site) (by_order m c.args.session c.order.result c.order.new.m c.order.ensures.answer)) c.order.ensures.left

pub returns-clause-inboxes : goal.returns-clause-inboxes
returns-clause-inboxes c =
    let m = c.self.inside.medium in
    let at : IsStateAt (doc_of m) m.history c.self.inside.sites.items c.site_of.result (c.number.result - 1) c.index_mut.result.now =
    state_at (doc_of m) m.history c.self.inside.sites.items c.site_of.result c.number.result c.index_mut.result.now c.self.invariant c.number.ensures.value c.site_of.ensures.there c.index_mut.ensures.value in
    inboxes_stay c.self.inside.sites.items (c.number.result - 1) c.index_mut.result.now c.order.new.self at.at c.order.ensures.inbox ∙ ap (λ x. x.inboxes) c.self.view_is
