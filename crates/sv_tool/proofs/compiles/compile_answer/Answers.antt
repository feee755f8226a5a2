use Rattle.std.proofs.Common.{Err}
use Rattle.sv_tool.specs.declared.words.Command.TheVariants.{Compile}
use Rattle.sv_tool.proofs.CompileLaws.{answers_compiled}
use Rattle.sv_tool.proofs.CommandLaws.{refused_answer}
use Rattle.sv_tool.proofs.compiles.compile_answer.Goals as goal

pub returns-in-Ok : goal.returns-in-Ok
returns-in-Ok c = answers_compiled c.args.bytes.now c.compiled_answer.result c.in-Ok.checked c.in-Ok.ensures.accepted c.in-Ok.ensures.fit c.compiled_answer.ensures

pub returns-in-Err-Refused : goal.returns-in-Err-Refused
returns-in-Err-Refused c =
    refused_answer Compile c.args.bytes.now c.in-Err-Refused.refusal c.refusal_answer.result
    (c.in-Err-Refused.ensures.refused c.in-Err-Refused.refusal (λ i. Err (c.in-Err-Refused.field-0-is i))) c.refusal_answer.ensures
