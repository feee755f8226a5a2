use Rattle.std.proofs.Common.{◌∙◌, Err, ap}
use Rattle.sv_tool.specs.Answer.{refused_with}
use Rattle.sv_tool.specs.ReadDocument.{said_by}
use Rattle.sv_tool.proofs.CommandLaws.{long_answers, long_only}
use Rattle.sv_tool.proofs.answers.answer_from.Goals as goal

pub returns-in_ok-refusal_answer-in-Err-TooLong-clause-answer : goal.returns-in_ok-refusal_answer-in-Err-TooLong-clause-answer
returns-in_ok-refusal_answer-in-Err-TooLong-clause-answer g c =
    long_answers c.args.command (g.S.Source.left c.args.input.now) (g.S.Source.left c.read_all.new.input) (said_by c.in_ok-refusal_answer-in-Err-TooLong.field-0)
    (c.in-Err-TooLong.ensures.long (λ i. Err (c.in-Err-TooLong.field-0-is i))) (c.in_ok-refusal_answer-in-Err-TooLong.ensures ∙ ap refused_with c.at_the_front.ensures)

pub returns-in_ok-refusal_answer-in-Err-TooLong-clause-only : goal.returns-in_ok-refusal_answer-in-Err-TooLong-clause-only
returns-in_ok-refusal_answer-in-Err-TooLong-clause-only g c =
    long_only c.args.command (g.S.Source.left c.args.input.now) (g.S.Source.left c.read_all.new.input) (said_by c.in_ok-refusal_answer-in-Err-TooLong.field-0)
    (c.in-Err-TooLong.ensures.long (λ i. Err (c.in-Err-TooLong.field-0-is i))) (c.in_ok-refusal_answer-in-Err-TooLong.ensures ∙ ap refused_with c.at_the_front.ensures)
