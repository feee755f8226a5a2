use Rattle.std.proofs.Common.{reverse, ap, ◌∙◌}
use Rattle.std.specs.Vec.{vec_capacity}
use Rattle.sv_core.specs.Document.{document_of}
use Rattle.sv_core.specs.History.{answered}
use Rattle.sv_core.proofs.KeepLaws.{IsStateOf, state_of}
use Rattle.sv_core.proofs.media.Medium.answered.Goals as goal

pub returns : goal.returns
returns c =
    let k = c.self.inside in
    let s : IsStateOf (document_of k.doc.value) (reverse k.history.items) k.sessions.items c.args.session c.index.result.now =
    state_of (document_of k.doc.value) (reverse k.history.items) k.published k.sessions.items (vec_capacity k.history) c.args.session c.index.result.now
    c.self.invariant.fields c.requires c.index.ensures in
    s.is.answered ∙ ap (λ m. answered m.history c.args.session) c.self.view_is
