use Rattle.std.proofs.Common.{reverse, sym, ap, subst, ◌∙◌}
use Rattle.std.specs.Vec.{vec_capacity}
use Rattle.sv_core.specs.Document.{document_of}
use Rattle.sv_core.specs.History.{site_of}
use Rattle.sv_core.specs.Mediums.{doc_of}
use Rattle.sv_core.specs.Sound.{IsSite}
use Rattle.sv_core.proofs.HistoryLaws.{site_there}
use Rattle.sv_core.proofs.KeepLaws.{IsStateOf, state_of}
use Rattle.sv_core.proofs.media.Medium.site_of.Goals as goal

pub returns-clause-site : goal.returns-clause-site
returns-clause-site c =
    let k = c.self.inside in
    let s : IsStateOf (document_of k.doc.value) (reverse k.history.items) k.sessions.items c.args.session c.index.result.now =
    state_of (document_of k.doc.value) (reverse k.history.items) k.published k.sessions.items (vec_capacity k.history) c.args.session c.index.result.now
    c.self.invariant.fields c.requires c.index.ensures in
    s.is.site ∙ ap (λ m. site_of (doc_of m) m.history c.args.session) c.self.view_is

pub returns-clause-there : goal.returns-clause-there
returns-clause-there c =
    let k = c.self.inside in
    let s : IsStateOf (document_of k.doc.value) (reverse k.history.items) k.sessions.items c.args.session c.index.result.now =
    state_of (document_of k.doc.value) (reverse k.history.items) k.published k.sessions.items (vec_capacity k.history) c.args.session c.index.result.now
    c.self.invariant.fields c.requires c.index.ensures in
    let doc = document_of k.doc.value in
    let lawful = c.self.invariant.fields.lawful in
    subst (λ m. IsSite (doc_of m) c.index.result.now.site) c.self.view_is
    (subst (IsSite doc) (sym s.is.site) (site_there doc (reverse k.history.items) lawful.sound.some lawful.legal c.args.session))
