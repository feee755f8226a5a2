use Rattle.sv_lex.specs.Lexers.{fault_of}
use Rattle.sv_tool.proofs.DocumentLaws.{refuses, faulty}
use Rattle.sv_tool.proofs.documents.read_document.Goals as goal

pub returns-in-Ok-clause-refused : goal.returns-in-Ok-clause-refused
returns-in-Ok-clause-refused c = λ refusal is. refuses c.args.bytes.now c.in-Ok.tokens.items c.deref.result.now c.spot_of.result refusal c.requires c.in-Ok.ensures.tokens c.deref.ensures.value c.spot_of.ensures (c.check_tokens.ensures.refused refusal is)

pub returns-in-Err-clause-refused : goal.returns-in-Err-clause-refused
returns-in-Err-clause-refused c = λ refusal is. faulty c.args.bytes.now (fault_of c.in-Err.stop) c.stop_of.result refusal c.requires c.in-Err.ensures.fault c.stop_of.ensures is
