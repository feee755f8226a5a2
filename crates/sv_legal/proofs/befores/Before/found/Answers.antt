use Rattle.sv_legal.specs.Before.{doc_of, past_of}
use Rattle.sv_legal.proofs.FindingLaws.{answers, publishes, silent}
use Rattle.sv_legal.proofs.befores.Before.found.Goals as goal

pub returns-in-None : goal.returns-in-None
returns-in-None c = (
  answers (doc_of c.args.self.now) (past_of c.args.self.now) c.args.asked.now.session c.args.asked.now.index c.args.asked.now.request.now c.args.asked.now.site c.args.asked.now.at c.args.shown.now.reply.now c.args.shown.now.label.now c.args.shown.now.packet.now c.args.p c.requires.asked c.requires.prepared c.requires.due,
  silent (doc_of c.args.self.now) (past_of c.args.self.now) c.args.asked.now.session c.args.asked.now.index c.args.asked.now.request.now c.args.asked.now.site c.args.asked.now.at c.args.shown.now.reply.now c.args.shown.now.label.now c.args.shown.now.packet.now c.in-None.is,
)

pub returns-in-Some : goal.returns-in-Some
returns-in-Some c = (
  answers (doc_of c.args.self.now) (past_of c.args.self.now) c.args.asked.now.session c.args.asked.now.index c.args.asked.now.request.now c.args.asked.now.site c.args.asked.now.at c.args.shown.now.reply.now c.args.shown.now.label.now c.args.shown.now.packet.now c.args.p c.requires.asked c.requires.prepared c.requires.due,
  publishes (doc_of c.args.self.now) (past_of c.args.self.now) c.args.asked.now.session c.args.asked.now.index c.args.asked.now.request.now c.args.asked.now.site c.args.asked.now.at c.args.shown.now.reply.now c.args.shown.now.label.now c.args.shown.now.packet.now _ _ c.in-Some.is c.op-op.ensures,
)
