use Rattle.sv_app.specs.Schema.{schema_of}
use Rattle.sv_tool.proofs.DocumentLaws.{accepted_tokens, refused_tokens}
use Rattle.sv_tool.proofs.documents.check_tokens.Goals as goal

pub returns-in-Ok-clause-accepted : goal.returns-in-Ok-clause-accepted
returns-in-Ok-clause-accepted c = accepted_tokens c.check_behind.result c.args.tokens.now c.in-Ok.at (schema_of c.in-Ok.tables.items) c.in-Ok.ensures.read c.check_behind.ensures.accepted

pub returns-in-Ok-clause-refused : goal.returns-in-Ok-clause-refused
returns-in-Ok-clause-refused c = λ refusal is. refused_tokens c.args.tokens.now c.in-Ok.at c.args.end (schema_of c.in-Ok.tables.items) refusal c.in-Ok.ensures.read (c.check_behind.ensures.refused refusal is)
