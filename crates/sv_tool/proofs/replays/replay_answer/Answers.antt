use Rattle.std.proofs.Common.{Err}
use Rattle.sv_tool.specs.declared.words.Command.TheVariants.{Replay}
use Rattle.sv_tool.proofs.CommandLaws.{refused_answer}
use Rattle.sv_tool.proofs.ReplayLaws.{replay_answered, replay_legal, stepless_answered}
use Rattle.sv_tool.proofs.replays.replay_answer.Goals as goal

pub returns-in-Some-clause-answer : goal.returns-in-Some-clause-answer
returns-in-Some-clause-answer c =
    replay_answered c.args.bytes.now c.in-Ok.checked c.in-Some.replay c.replayed_answer.result c.in-Ok.ensures.accepted c.in-Some.ensures c.replayed_answer.ensures.status c.replayed_answer.ensures.text

pub returns-in-Some-clause-legal : goal.returns-in-Some-clause-legal
returns-in-Some-clause-legal c = replay_legal c.args.bytes.now c.in-Ok.checked c.in-Some.replay c.replayed_answer.result c.in-Ok.ensures.accepted c.in-Some.ensures c.replayed_answer.ensures.text

pub returns-in-None-clause-answer : goal.returns-in-None-clause-answer
returns-in-None-clause-answer c =
    stepless_answered c.args.bytes.now c.in-Ok.checked c.no_steps.result c.refusal_answer.result c.in-Ok.ensures.accepted c.in-None.ensures c.no_steps.ensures c.refusal_answer.ensures

pub returns-in-Err-Refused-clause-answer : goal.returns-in-Err-Refused-clause-answer
returns-in-Err-Refused-clause-answer c =
    refused_answer Replay c.args.bytes.now c.in-Err-Refused.refusal c.refusal_answer-in-Err-Refused.result
    (c.in-Err-Refused.ensures.refused c.in-Err-Refused.refusal (λ i. Err (c.in-Err-Refused.field-0-is i))) c.refusal_answer-in-Err-Refused.ensures
