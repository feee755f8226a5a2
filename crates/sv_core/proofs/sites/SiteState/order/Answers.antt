use Rattle.std.proofs.Common.{subst, ◌≡◌, None, slice_get}
use Rattle.sv_core.specs.History.{published}
use Rattle.sv_core.specs.Mediums.{doc_of}
use Rattle.sv_core.proofs.HoldLaws.{can_answer_pending, ordered_now}
use Rattle.sv_core.proofs.sites.SiteState.order.Goals as goal

pub answer-place-requires-clause-can : goal.answer-place-requires-clause-can
answer-place-requires-clause-can c =
    let none : None ≡ slice_get (published (doc_of c.args.m.now) c.args.m.now.history 0) c.in-Some.proposal.deps.reds =
    subst (λ m. None ≡ slice_get (published (doc_of m) m.history 0) c.in-Some.proposal.deps.reds) c.withdraw.ensures.gone c.in-None.ensures.op in
    can_answer_pending c.args.m.now c.withdraw.new.self c.in-Some.proposal c.args.session c.requires.stands.lawful c.in-Some.ensures.pending c.withdraw.ensures.gone c.in-Some.ensures.awaited none

pub returns-in-None-clause-answer : goal.returns-in-None-clause-answer
returns-in-None-clause-answer c =
    let none : None ≡ slice_get (published (doc_of c.args.m.now) c.args.m.now.history 0) c.in-Some.proposal.deps.reds =
    subst (λ m. None ≡ slice_get (published (doc_of m) m.history 0) c.in-Some.proposal.deps.reds) c.withdraw.ensures.gone c.in-None.ensures.op in
    let o = ordered_now c.args.m.now c.withdraw.new.self c.answer-place.new.m c.in-Some.proposal c.args.session c.answer-place.result c.withdraw.result c.requires.stands.lawful c.in-Some.ensures.pending
    c.withdraw.ensures.shown c.in-Some.is c.withdraw.ensures.gone none c.answer-place.ensures.added in
    (o.proposal, o.stands, o.due, o.adds)
