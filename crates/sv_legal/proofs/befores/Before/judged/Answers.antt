use Rattle.std.proofs.Common.{◌≡◌, false, true, sym, ◌∙◌}
use Rattle.sv_legal.specs.Before.{doc_of, past_of}
use Rattle.sv_legal.proofs.FindingLaws.{shows}
use Rattle.sv_legal.proofs.befores.Before.judged.Goals as goal

pub returns-then-not-is_due : goal.returns-then-not-is_due
returns-then-not-is_due c = λ answer.
    let no : false ≡ true = sym c.if-not-is_due.true ∙ c.is_due.ensures.1 (shows (doc_of c.args.self.now) (past_of c.args.self.now) c.args.asked.now.session c.args.asked.now.index c.args.asked.now.request.now c.args.asked.now.site c.args.asked.now.at c.args.shown.now.reply.now c.args.shown.now.label.now c.args.shown.now.packet.now c.in_ok-p.p c.in_ok-p.ensures answer) in
    absurd cc
