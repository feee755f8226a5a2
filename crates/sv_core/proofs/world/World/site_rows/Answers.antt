use Rattle.std.proofs.Common.{◌-◌, ap, sym, subst, ◌∙◌}
use Rattle.sv_effect.specs.RowsFit.{TablesAreOf}
use Rattle.sv_core.specs.History.{tables_at}
use Rattle.sv_core.specs.Mediums.{doc_of}
use Rattle.sv_core.specs.Sound.{IsSite}
use Rattle.sv_core.proofs.GrowLaws.{IsStateAt, state_at}
use Rattle.sv_core.proofs.world.World.site_rows.Goals as goal

pub returns-clause-tables : goal.returns-clause-tables
returns-clause-tables c =
    let m = c.self.inside.medium in
    let there : IsSite (doc_of m) c.args.site = subst (λ x. IsSite (doc_of x.medium) c.args.site) (sym c.self.view_is) c.requires in
    let at : IsStateAt (doc_of m) m.history c.self.inside.sites.items c.args.site (c.number.result - 1) c.index.result.now =
    state_at (doc_of m) m.history c.self.inside.sites.items c.args.site c.number.result c.index.result.now c.self.invariant c.number.ensures.value there c.index.ensures in
    ap (λ x. x.tables) c.rows.ensures ∙ at.stands.tables ∙ ap (λ s. tables_at (doc_of m) m.history s) at.is ∙ ap (λ x. tables_at (doc_of x.medium) x.medium.history c.args.site) c.self.view_is

pub returns-clause-fit : goal.returns-clause-fit
returns-clause-fit c =
    let m = c.self.inside.medium in
    let there : IsSite (doc_of m) c.args.site = subst (λ x. IsSite (doc_of x.medium) c.args.site) (sym c.self.view_is) c.requires in
    let at : IsStateAt (doc_of m) m.history c.self.inside.sites.items c.args.site (c.number.result - 1) c.index.result.now =
    state_at (doc_of m) m.history c.self.inside.sites.items c.args.site c.number.result c.index.result.now c.self.invariant c.number.ensures.value there c.index.ensures in
    subst (λ x. TablesAreOf (doc_of x.medium).schema c.rows.result.store.now.tables) c.self.view_is
    (subst (λ x. TablesAreOf (doc_of m).schema x.tables) (sym c.rows.ensures) at.stands.fit)
