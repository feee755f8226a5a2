use Rattle.std.proofs.Common.{sym, subst}
use Rattle.sv_core.specs.Legal.{IsMove}
use Rattle.sv_core.specs.Mediums.{doc_of}
use Rattle.sv_core.proofs.GrowLaws.{lawful_states, states_moved}
use Rattle.sv_core.proofs.world.World.go.Goals as goal

pub invariant_of-self : goal.invariant_of-self
invariant_of-self c =
    let m = c.self.inside.medium in
    let next : IsMove (doc_of m) m.history c.args.session c.args.site = subst (λ x. IsMove (doc_of x.medium) x.medium.history c.args.session c.args.site) (sym c.self.view_is)
    (record { who = c.requires.session; there = c.requires.site; awaited = c.requires.awaited; listed = c.requires.listed }) in
    states_moved m c.go.new.self c.self.inside.sites.items c.args.session c.args.site c.go.result c.self.invariant next
    (lawful_states (doc_of m) m.history c.self.inside.sites.items c.args.site c.self.invariant next.there) c.go.ensures
