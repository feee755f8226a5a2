use Rattle.std.proofs.Common.{rules}
use Rattle.sv_core.specs.Document.{document_of}
use Rattle.sv_live.proofs.CrewLaws.{answered_one, ended_one}
use Rattle.sv_live.proofs.crews.answer_all.Goals as goal

pub loop-preserved-in-Ok-Answered : goal.loop-preserved-in-Ok-Answered
loop-preserved-in-Ok-Answered g c = (
  search rules,
  search rules,
  c.request-next.ensures.own,
  c.request-next.ensures.mail,
  answered_one (document_of c.args.office.now.hub.name) c.args.sessions.items c.loop.pass.seen c.request-next.result.0.seen c.in-Some-pop_front.session
      c.loop.left.items c.pop_front.new.self.items c.push_back_reserved.new.self.items c.loop.invariant.4 c.in-Some-pop_front.ensures.items c.request-next.ensures.seen
      c.push_back_reserved.ensures.items,
)

pub loop-preserved : goal.loop-preserved
loop-preserved g c = (
  search rules,
  search rules,
  c.request-next.ensures.own,
  c.request-next.ensures.mail,
  ended_one (document_of c.args.office.now.hub.name) c.args.sessions.items c.loop.pass.seen c.request-next.result.0.seen c.in-Some-pop_front.session
      c.loop.left.items c.pop_front.new.self.items c.loop.invariant.4 c.in-Some-pop_front.ensures.items c.request-next.ensures.seen (search rules),
)
