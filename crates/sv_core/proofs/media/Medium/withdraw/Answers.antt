use Rattle.std.proofs.Common.{◌≡◌, ◌-◌, ◌+◌, None, refl, reverse, set, sym, ap, subst, arith}
use Rattle.std.specs.Prelude.{IfSome}
use Rattle.std.specs.Vec.{vec_capacity}
use Rattle.std.proofs.lemmas.List.{map-set}
use Rattle.sv_core.specs.declared.sessions.Session.{Session}
use Rattle.sv_core.specs.Document.{document_of}
use Rattle.sv_core.specs.History.{History, answers}
use Rattle.sv_core.specs.MediumState.{IsPending, shown, proposals_in}
use Rattle.sv_core.specs.Mediums.{doc_of, how_many_pending, one_if}
use Rattle.sv_core.proofs.KeepLaws.{IsStateOf, awaited_again, keeps_exchanged, pending_set, state_of, view_exchanged}
use Rattle.sv_core.proofs.media.Medium.withdraw.Goals as goal

pub invariant_of-self : goal.invariant_of-self
invariant_of-self c =
    let k = c.self.inside in
    let doc = document_of k.doc.value in
    let h : History = reverse k.history.items in
    let old = c.index_mut.result.now in
    let s : IsStateOf doc h k.sessions.items c.args.session old =
    state_of doc h k.published k.sessions.items (vec_capacity k.history) c.args.session old c.self.invariant.fields c.requires c.index_mut.ensures.value in
    let new : Session = record { answered = old.answered; moved = old.moved; site = old.site; seen = old.seen; proposal = c.take.new.self } in
    let gone : one_if (shown c.take.new.self) ≡ 0 = ap (λ p. one_if (shown p)) c.take.ensures.after in
    let nothing : IfSome c.take.new.self (IsPending doc h c.args.session) =
    subst (λ p. IfSome p (IsPending doc h c.args.session)) (sym c.take.ensures.after) tt in
    record {
      sound = c.self.invariant.sound;
      fields = keeps_exchanged doc h k.published k.sessions.items (vec_capacity k.history) c.args.session old new c.self.invariant.fields c.requires s
          (record { answered = refl; moved = refl; site = refl; seen = refl }) nothing (omega (arith, gone, c.self.invariant.fields.awaited));
    }

pub returns-clause-pending : goal.returns-clause-pending
returns-clause-pending c =
    let k = c.self.inside in
    let doc = document_of k.doc.value in
    let h : History = reverse k.history.items in
    let old = c.index_mut.result.now in
    let s : IsStateOf doc h k.sessions.items c.args.session old =
    state_of doc h k.published k.sessions.items (vec_capacity k.history) c.args.session old c.self.invariant.fields c.requires c.index_mut.ensures.value in
    subst (λ m. IfSome c.take.result (λ proposal. IsPending (doc_of m) m.history c.args.session proposal)) c.self.view_is
    (subst (λ p. IfSome p (λ proposal. IsPending doc h c.args.session proposal)) (sym c.take.ensures.value) s.is.proposal)

pub returns-clause-awaited : goal.returns-clause-awaited
returns-clause-awaited c =
    let k = c.self.inside in
    let doc = document_of k.doc.value in
    let h : History = reverse k.history.items in
    let old = c.index_mut.result.now in
    let s : IsStateOf doc h k.sessions.items c.args.session old =
    state_of doc h k.published k.sessions.items (vec_capacity k.history) c.args.session old c.self.invariant.fields c.requires c.index_mut.ensures.value in
    let new : Session = record { answered = old.answered; moved = old.moved; site = old.site; seen = old.seen; proposal = c.take.new.self } in
    let gone : one_if (shown c.take.new.self) ≡ 0 = ap (λ p. one_if (shown p)) c.take.ensures.after in
    let was : one_if (shown c.take.result) ≡ one_if (shown old.proposal) = ap (λ p. one_if (shown p)) c.take.ensures.value in
    let count : how_many_pending (set (proposals_in k.sessions.items) (c.args.session - 1) (shown c.take.new.self)) + one_if (shown old.proposal)
    ≡ how_many_pending (proposals_in k.sessions.items) + one_if (shown c.take.new.self) =
    pending_set (proposals_in k.sessions.items) (c.args.session - 1) (shown old.proposal) (shown c.take.new.self) s.slot in
    let left : how_many_pending (proposals_in (set k.sessions.items (c.args.session - 1) new))
    ≡ how_many_pending (set (proposals_in k.sessions.items) (c.args.session - 1) (shown c.take.new.self)) =
    ap how_many_pending (map-set (λ x. shown x.proposal) k.sessions.items (c.args.session - 1) new) in
    awaited_again c.take.result (answers h + how_many_pending (proposals_in (set k.sessions.items (c.args.session - 1) new))) doc.asks
    (omega (arith, gone, was, count, left, c.self.invariant.fields.awaited))

pub returns-clause-gone : goal.returns-clause-gone
returns-clause-gone c =
    let k = c.self.inside in
    let doc = document_of k.doc.value in
    let h : History = reverse k.history.items in
    let old = c.index_mut.result.now in
    let new : Session = record { answered = old.answered; moved = old.moved; site = old.site; seen = old.seen; proposal = c.take.new.self } in
    view_exchanged c.args.self.now k.doc.value k.history.items k.sessions.items c.args.session new None c.self.view_is (ap shown c.take.ensures.after)
