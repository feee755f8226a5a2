use Rattle.std.proofs.Common.{◌-◌, ap, sym, subst, ◌∙◌}
use Rattle.sv_value.specs.Cuts.{counts}
use Rattle.sv_core.specs.History.{cut_of}
use Rattle.sv_core.specs.Mediums.{doc_of}
use Rattle.sv_core.specs.Sound.{IsSite}
use Rattle.sv_core.proofs.GrowLaws.{IsStateAt, state_at}
use Rattle.sv_core.proofs.world.World.cut.Goals as goal

pub returns : goal.returns
returns c =
    let m = c.self.inside.medium in
    let there : IsSite (doc_of m) c.args.site = subst (λ x. IsSite (doc_of x.medium) c.args.site) (sym c.self.view_is) c.requires in
    let at : IsStateAt (doc_of m) m.history c.self.inside.sites.items c.args.site (c.number.result - 1) c.index.result.now =
    state_at (doc_of m) m.history c.self.inside.sites.items c.args.site c.number.result c.index.result.now c.self.invariant c.number.ensures.value there c.index.ensures in
    λ o. ap (λ x. counts x o) c.cut.ensures ∙ at.stands.cut o ∙ ap (λ s. cut_of m.history s o) at.is ∙ ap (λ x. cut_of x.medium.history c.args.site o) c.self.view_is
