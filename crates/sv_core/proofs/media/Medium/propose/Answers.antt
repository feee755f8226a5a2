use Rattle.std.proofs.Common.{◌<◌, ◌+◌, Some, refl, reverse, sym, subst, arith}
use Rattle.std.specs.Vec.{vec_capacity}
use Rattle.sv_core.specs.declared.sessions.Session.{Session}
use Rattle.sv_core.specs.Document.{document_of}
use Rattle.sv_core.specs.History.{History, answers}
use Rattle.sv_core.specs.MediumState.{IsAwaited, IsPending, shown, proposals_in}
use Rattle.sv_core.specs.Mediums.{doc_of, how_many_pending}
use Rattle.sv_core.proofs.KeepLaws.{IsStateOf, keeps_exchanged, state_of, view_exchanged}
use Rattle.sv_core.proofs.media.Medium.propose.Goals as goal

pub invariant_of-self : goal.invariant_of-self
invariant_of-self c =
    let k = c.self.inside in
    let doc = document_of k.doc.value in
    let h : History = reverse k.history.items in
    let old = c.index_mut.result.now in
    let s : IsStateOf doc h k.sessions.items c.args.session old =
    state_of doc h k.published k.sessions.items (vec_capacity k.history) c.args.session old c.self.invariant.fields c.requires.session c.index_mut.ensures.value in
    let new : Session = record { answered = old.answered; moved = old.moved; site = old.site; seen = old.seen; proposal = Some c.args.proposal } in
    let pending : IsPending doc h c.args.session c.args.proposal =
    subst (λ m. IsPending (doc_of m) m.history c.args.session c.args.proposal) (sym c.self.view_is) c.requires.pending in
    let awaited : answers h + how_many_pending (proposals_in k.sessions.items) < doc.asks = subst IsAwaited (sym c.self.view_is) c.requires.awaited in
    record {
      sound = c.self.invariant.sound;
      fields = keeps_exchanged doc h k.published k.sessions.items (vec_capacity k.history) c.args.session old new c.self.invariant.fields c.requires.session s
          (record { answered = refl; moved = refl; site = refl; seen = refl }) pending (omega (arith, awaited));
    }

pub returns : goal.returns
returns c =
    let k = c.self.inside in
    let doc = document_of k.doc.value in
    let h : History = reverse k.history.items in
    let old = c.index_mut.result.now in
    let new : Session = record { answered = old.answered; moved = old.moved; site = old.site; seen = old.seen; proposal = Some c.args.proposal } in
    view_exchanged c.args.self.now k.doc.value k.history.items k.sessions.items c.args.session new (shown (Some c.args.proposal)) c.self.view_is refl
