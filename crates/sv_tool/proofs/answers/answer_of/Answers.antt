use Rattle.std.proofs.Common.{subst}
use Rattle.sv_tool.specs.Commands.{IsAnswerOf}
use Rattle.sv_tool.specs.declared.words.Command.TheVariants.{Check, Compile, Replay}
use Rattle.sv_tool.proofs.CommandLaws.{only_answer}
use Rattle.sv_tool.proofs.answers.answer_of.Goals as goal

pub returns-in-Replay-clause-only : goal.returns-in-Replay-clause-only
returns-in-Replay-clause-only c = λ other is done.
    only_answer Replay c.args.bytes.now c.replay_answer.result c.replay_answer.ensures.answer other (subst (λ command. IsAnswerOf command c.args.bytes.now other) c.in-Replay.is is) done

pub returns-in-Check-clause-only : goal.returns-in-Check-clause-only
returns-in-Check-clause-only c = λ other is done.
    only_answer Check c.args.bytes.now c.check_answer.result c.check_answer.ensures other (subst (λ command. IsAnswerOf command c.args.bytes.now other) c.in-Check.is is) done

pub returns-in-Compile-clause-only : goal.returns-in-Compile-clause-only
returns-in-Compile-clause-only c = λ other is done.
    only_answer Compile c.args.bytes.now c.compile_answer.result c.compile_answer.ensures other (subst (λ command. IsAnswerOf command c.args.bytes.now other) c.in-Compile.is is) done
