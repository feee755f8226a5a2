use Rattle.std.proofs.Common.{drop}
use Rattle.sv_app.specs.Schema.{schema_of}
use Rattle.sv_app.specs.Trees.{transactions_of}
use Rattle.sv_tool.proofs.DocumentLaws.{asks_too_much, parts_refused, whole_read}
use Rattle.sv_tool.proofs.documents.accept_read.Goals as goal

pub returns-in-Err-read_parts-clause-refused : goal.returns-in-Err-read_parts-clause-refused
returns-in-Err-read_parts-clause-refused c = λ refusal is.
    parts_refused (schema_of c.args.tables.items) (schema_of c.in-Ok.app.tables.items) (transactions_of c.args.txns.items) (transactions_of c.in-Ok.app.txns.items) (drop c.args.at c.args.tokens.now) c.args.end refusal
    c.in-Ok.ensures.accepted c.in-Ok.ensures.tables c.in-Ok.ensures.txns c.in-Ok-compile.ensures.fits (c.in-Err-read_parts.ensures.refused refusal cc)

pub returns-in-Err-compile-clause-refused : goal.returns-in-Err-compile-clause-refused
returns-in-Err-compile-clause-refused c = λ refusal is.
    asks_too_much (schema_of c.args.tables.items) (schema_of c.in-Ok.app.tables.items) (transactions_of c.args.txns.items) (transactions_of c.in-Ok.app.txns.items) (drop c.args.at c.args.tokens.now) c.args.end
    c.in-Err-compile.stop refusal c.in-Ok.ensures.accepted c.in-Ok.ensures.tables c.in-Ok.ensures.txns c.in-Err-compile.ensures.refused is

pub returns-in-Ok-read_parts-clause-whole : goal.returns-in-Ok-read_parts-clause-whole
returns-in-Ok-read_parts-clause-whole c =
    whole_read (schema_of c.args.tables.items) (schema_of c.in-Ok.app.tables.items) (transactions_of c.args.txns.items) (transactions_of c.in-Ok.app.txns.items) (drop c.args.at c.args.tokens.now)
    c.in-Ok-read_parts.parts c.in-Ok.ensures.accepted c.in-Ok.ensures.tables c.in-Ok.ensures.txns c.in-Ok-compile.ensures.fits c.in-Ok-read_parts.ensures.read
