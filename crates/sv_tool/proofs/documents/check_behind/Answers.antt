use Rattle.std.proofs.Common.{drop}
use Rattle.sv_app.specs.Schema.{schema_of}
use Rattle.sv_app.specs.Trees.{transactions_of}
use Rattle.sv_tool.specs.Documents.{Later}
use Rattle.sv_tool.proofs.DocumentLaws.{accepted_behind}
use Rattle.sv_tool.proofs.documents.check_behind.Goals as goal

pub returns-in-Ok-clause-accepted : goal.returns-in-Ok-clause-accepted
returns-in-Ok-clause-accepted c = accepted_behind c.accept_read.result (schema_of c.args.tables.items) (transactions_of c.in-Ok.txns.items) (drop c.args.at c.args.tokens.now) (drop c.in-Ok.behind c.args.tokens.now)
    c.in-Ok.ensures.read c.accept_read.ensures.whole c.accept_read.ensures.of

pub returns-in-Ok-clause-refused : goal.returns-in-Ok-clause-refused
returns-in-Ok-clause-refused c = λ refusal is. Later (transactions_of c.in-Ok.txns.items) (drop c.in-Ok.behind c.args.tokens.now) c.in-Ok.ensures.read (c.accept_read.ensures.refused refusal is)
