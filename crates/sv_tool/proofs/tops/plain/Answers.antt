use Rattle.std.proofs.Common.{List, ℕ, refl, subst}
use Rattle.sv_tool.specs.ReadDocument.{said_by}
use Rattle.sv_tool.specs.Statuses.{Writes}
use Rattle.sv_tool.proofs.HeadlineLaws.{usage_told, answer_told}
use Rattle.sv_tool.proofs.tops.plain.Goals as goal

pub returns-in_default-clause-headline : goal.returns-in_default-clause-headline
returns-in_default-clause-headline g c =
    usage_told g.S.Source.left g.S.Source.faults g.K.Sink.taken g.K.Sink.faults c.args.words.now c.args.input.now c.args.input.now c.args.out.now c.tell.new.out c.tell.result
    c.in_default.ensures refl c.tell.ensures

pub returns-in-Ok-clause-headline : goal.returns-in-Ok-clause-headline
returns-in-Ok-clause-headline g c =
    answer_told g.S.Source.left g.S.Source.faults g.K.Sink.taken g.K.Sink.faults c.args.words.now c.args.input.now c.answer_from.new.input c.args.out.now c.tell-in-Ok.new.out c.tell-in-Ok.result
    c.in-Some.command c.in-Some.ensures (said_by c.in-Ok.answer) c.in-Ok.ensures.answer c.in-Ok.ensures.only c.in-Ok.ensures.status c.in-Ok.ensures.end
    (subst (λ (text : List ℕ). Writes (g.K.Sink.taken c.args.out.now) (g.K.Sink.taken c.tell-in-Ok.new.out) (g.K.Sink.faults c.args.out.now) (g.K.Sink.faults c.tell-in-Ok.new.out) c.in-Ok.answer.status text c.tell-in-Ok.result)
    c.deref.ensures.value c.tell-in-Ok.ensures)
