use Rattle.std.proofs.Common.{◌≡◌, ◌<◌, ◌-◌, ◌+◌, ◌∷◌, length, None, refl, reverse, set, sym, subst, arith}
use Rattle.std.specs.Vec.{vec_capacity}
use Rattle.std.proofs.lemmas.List.{length-reverse}
use Rattle.sv_core.specs.declared.entries.Entry.TheVariants.{Move}
use Rattle.sv_core.specs.declared.sessions.Session.{Session}
use Rattle.sv_core.specs.Document.{document_of}
use Rattle.sv_core.specs.History.{History}
use Rattle.sv_core.specs.Legal.{IsMove}
use Rattle.sv_core.specs.MediumState.{Keeps}
use Rattle.sv_core.specs.Mediums.{doc_of, proposal_of}
use Rattle.sv_core.proofs.KeepLaws.{Follows, HasRoom, IsStateOf, keeps_moved, keeps_pushed, proposals_same, room_for, room_of, state_of, view_pushed}
use Rattle.sv_core.proofs.SessionLaws.{state_moved}
use Rattle.sv_core.proofs.media.Medium.add_move.Goals as goal

pub overflow_add-state : goal.overflow_add-state
overflow_add-state c =
    let k = c.self.inside in
    let doc = document_of k.doc.value in
    let h : History = reverse k.history.items in
    let s : IsStateOf doc h k.sessions.items c.args.session c.index_mut-state.result.now =
    state_of doc h k.published k.sessions.items (vec_capacity k.history) c.args.session c.index_mut-state.result.now c.self.invariant.fields c.requires.session
    c.index_mut-state.ensures.value in
    let room : HasRoom doc h (vec_capacity k.history) c.args.session =
    room_of doc h (vec_capacity k.history) c.args.session c.self.invariant.fields.lawful c.self.invariant.fields.space in
    omega (arith, s.is.moved, room.moved)

pub push_reserved-requires : goal.push_reserved-requires
push_reserved-requires c =
    let k = c.self.inside in
    let doc = document_of k.doc.value in
    let h : History = reverse k.history.items in
    let next : IsMove doc h c.args.session c.args.site = subst (λ m. IsMove (doc_of m) m.history c.args.session c.args.site) (sym c.self.view_is)
    (record { who = c.requires.session; there = c.requires.site; awaited = c.requires.awaited; listed = c.requires.listed }) in
    let room : length h < vec_capacity k.history =
    room_for doc (Move c.args.session c.args.site) h k.published k.sessions.items (vec_capacity k.history) c.args.session c.self.invariant.fields next in
    omega (arith, room, k.history.ok.0, length-reverse k.history.items)

pub invariant_of-self : goal.invariant_of-self
invariant_of-self c =
    let k = c.self.inside in
    let doc = document_of k.doc.value in
    let h : History = reverse k.history.items in
    let s : IsStateOf doc h k.sessions.items c.args.session c.index_mut-state.result.now =
    state_of doc h k.published k.sessions.items (vec_capacity k.history) c.args.session c.index_mut-state.result.now c.self.invariant.fields c.requires.session
    c.index_mut-state.ensures.value in
    let next : IsMove doc h c.args.session c.args.site = subst (λ m. IsMove (doc_of m) m.history c.args.session c.args.site) (sym c.self.view_is)
    (record { who = c.requires.session; there = c.requires.site; awaited = c.requires.awaited; listed = c.requires.listed }) in
    let old = c.index_mut-state.result.now in
    let new : Session = record { answered = old.answered; moved = old.moved + 1; site = c.args.site; seen = old.seen; proposal = old.proposal } in
    let sessions = set k.sessions.items (c.args.session - 1) new in
    let none : old.proposal ≡ None = s.none (subst (λ m. proposal_of m c.args.session ≡ None) (sym c.self.view_is) c.requires.none) in
    let follows : Follows doc (Move c.args.session c.args.site) h c.args.session old new =
    record { is = state_moved doc h c.args.session c.args.site old new s.is refl refl refl refl none; shows = refl } in
    let kept : Keeps doc (Move c.args.session c.args.site ∷ h) k.published sessions (vec_capacity k.history) =
    keeps_moved doc h k.published k.sessions.items (vec_capacity k.history) c.args.session c.args.site old new c.self.invariant.fields next s follows in
    record {
      sound = c.self.invariant.sound;
      fields = keeps_pushed doc k.history.items c.push_reserved.new.self.items (Move c.args.session c.args.site) k.published sessions (vec_capacity k.history)
          (vec_capacity c.push_reserved.new.self)
          c.push_reserved.ensures.items c.push_reserved.ensures.capacity kept;
    }

pub returns : goal.returns
returns c =
    let k = c.self.inside in
    let doc = document_of k.doc.value in
    let h : History = reverse k.history.items in
    let s : IsStateOf doc h k.sessions.items c.args.session c.index_mut-state.result.now =
    state_of doc h k.published k.sessions.items (vec_capacity k.history) c.args.session c.index_mut-state.result.now c.self.invariant.fields c.requires.session
    c.index_mut-state.ensures.value in
    let old = c.index_mut-state.result.now in
    let new : Session = record { answered = old.answered; moved = old.moved + 1; site = c.args.site; seen = old.seen; proposal = old.proposal } in
    let sessions = set k.sessions.items (c.args.session - 1) new in
    view_pushed c.args.self.now k.doc.value k.history.items c.push_reserved.new.self.items k.sessions.items sessions (Move c.args.session c.args.site)
    c.self.view_is
    c.push_reserved.ensures.items (proposals_same k.sessions.items (c.args.session - 1) old new s.at refl)
