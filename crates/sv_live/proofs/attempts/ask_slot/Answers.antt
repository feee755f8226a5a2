use Rattle.sv_live.proofs.AttemptLaws.{caught_there, order_stands}
use Rattle.sv_live.proofs.attempts.ask_slot.Goals as goal

pub answer_at-index-requires : goal.answer_at-index-requires
answer_at-index-requires c = order_stands c.args.w.now.medium c.order.new.self.medium c.args.session c.in-Answered.place c.in-Answered.ensures.answer

pub returns-in-Behind-clause-answer : goal.returns-in-Behind-clause-answer
returns-in-Behind-clause-answer c = record {
  ordered = c.order.new.self.medium;
  is = c.in-Behind.ensures.answer;
  caught = caught_there c.order.new.self c.catch_up.new.self c.args.session c.site_of-site.result c.catch_up.result c.site_of-site.ensures.site c.catch_up.ensures.caught c.catch_up.ensures.world;
}
