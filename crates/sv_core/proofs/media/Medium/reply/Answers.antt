use Rattle.std.proofs.Common.{◌<◌, ◌-◌, ◌∷◌, length, reverse, set, sym, ap, subst, arith}
use Rattle.std.specs.Vec.{vec_capacity}
use Rattle.std.proofs.lemmas.List.{length-reverse}
use Rattle.sv_core.specs.Document.{document_of}
use Rattle.sv_core.specs.History.{History}
use Rattle.sv_core.specs.MediumState.{Keeps, shown}
use Rattle.sv_core.proofs.KeepLaws.{Answers, HasRoom, IsAsked, IsStateOf, answer_kept, keeps_pushed, proposals_same, replies, room_for, room_of, state_of, view_of, view_pushed}
use Rattle.sv_core.proofs.media.Medium.reply.Goals as goal

pub answer-requires : goal.answer-requires
answer-requires c =
    let k = c.self.inside in
    let doc = document_of k.doc.value in
    let h : History = reverse k.history.items in
    let s : IsStateOf doc h k.sessions.items c.args.session c.index_mut.result.now =
    state_of doc h k.published k.sessions.items (vec_capacity k.history) c.args.session c.index_mut.result.now c.self.invariant.fields c.requires.session
    c.index_mut.ensures.value in
    let room : HasRoom doc h (vec_capacity k.history) c.args.session =
    room_of doc h (vec_capacity k.history) c.args.session c.self.invariant.fields.lawful c.self.invariant.fields.space in
    omega (arith, s.is.answered, room.answered)

pub push_reserved-requires : goal.push_reserved-requires
push_reserved-requires c =
    let k = c.self.inside in
    let doc = document_of k.doc.value in
    let h : History = reverse k.history.items in
    let asked : IsAsked (view_of k.doc.value k.history.items k.sessions.items) c.args.session c.args.cut.now c.args.entry =
    subst (λ m. IsAsked m c.args.session c.args.cut.now c.args.entry) (sym c.self.view_is)
    (record { who = c.requires.session; none = c.requires.none; awaited = c.requires.awaited; next = c.requires.next; cut_is = c.requires.cut }) in
    let room : length h < vec_capacity k.history =
    room_for doc c.args.entry h k.published k.sessions.items (vec_capacity k.history) c.args.session c.self.invariant.fields asked.next in
    omega (arith, room, k.history.ok.0, length-reverse k.history.items)

pub invariant_of-self : goal.invariant_of-self
invariant_of-self c =
    let k = c.self.inside in
    let doc = document_of k.doc.value in
    let h : History = reverse k.history.items in
    let s : IsStateOf doc h k.sessions.items c.args.session c.index_mut.result.now =
    state_of doc h k.published k.sessions.items (vec_capacity k.history) c.args.session c.index_mut.result.now c.self.invariant.fields c.requires.session
    c.index_mut.ensures.value in
    let asked : IsAsked (view_of k.doc.value k.history.items k.sessions.items) c.args.session c.args.cut.now c.args.entry =
    subst (λ m. IsAsked m c.args.session c.args.cut.now c.args.entry) (sym c.self.view_is)
    (record { who = c.requires.session; none = c.requires.none; awaited = c.requires.awaited; next = c.requires.next; cut_is = c.requires.cut }) in
    let gives : Answers doc c.args.entry h c.args.session k.published =
    replies doc c.args.entry h c.args.session k.published c.self.invariant.fields.ops c.self.invariant.fields.short c.requires.reply in
    let sessions = set k.sessions.items (c.args.session - 1) c.answer.new.self in
    let kept : Keeps doc (c.args.entry ∷ h) k.published sessions (vec_capacity k.history) =
    answer_kept k.doc.value k.history.items k.published k.published k.sessions.items (vec_capacity k.history) c.args.session c.args.cut.now c.args.entry
    c.index_mut.result.now c.answer.new.self c.self.invariant.fields asked gives s
    (record {
      answered = c.answer.ensures.answered;
      seen = c.answer.ensures.seen;
      moved = c.answer.ensures.moved;
      site = c.answer.ensures.site;
      proposal = c.answer.ensures.proposal;
    }) in
    record {
      sound = c.self.invariant.sound;
      fields = keeps_pushed doc k.history.items c.push_reserved.new.self.items c.args.entry k.published sessions (vec_capacity k.history)
          (vec_capacity c.push_reserved.new.self)
          c.push_reserved.ensures.items c.push_reserved.ensures.capacity kept;
    }

pub returns : goal.returns
returns c =
    let k = c.self.inside in
    let doc = document_of k.doc.value in
    let h : History = reverse k.history.items in
    let s : IsStateOf doc h k.sessions.items c.args.session c.index_mut.result.now =
    state_of doc h k.published k.sessions.items (vec_capacity k.history) c.args.session c.index_mut.result.now c.self.invariant.fields c.requires.session
    c.index_mut.ensures.value in
    view_pushed c.args.self.now k.doc.value k.history.items c.push_reserved.new.self.items k.sessions.items
    (set k.sessions.items (c.args.session - 1) c.answer.new.self) c.args.entry c.self.view_is
    c.push_reserved.ensures.items
    (proposals_same k.sessions.items (c.args.session - 1) c.index_mut.result.now c.answer.new.self s.at (ap shown c.answer.ensures.proposal))
