use Rattle.std.proofs.Common.{drop, subst}
use Rattle.sv_app.specs.Schema.{schema_of}
use Rattle.sv_app.specs.Trees.{transactions_of}
use Rattle.sv_reader.proofs.CutLaws.{whole_drop}
use Rattle.sv_workload.specs.Documents.{AreParts, IsRefused}
use Rattle.sv_workload.proofs.DocumentLaws.{ok_map}
use Rattle.sv_workload.proofs.PartsFitLaws.{parts_fit}
use Rattle.sv_workload.proofs.reading.read_parts.Goals as goal

pub returns-clause-refused : goal.returns-clause-refused
returns-clause-refused c refusal e = subst (λ l. IsRefused (schema_of c.args.app.now.tables.items) (transactions_of c.args.app.now.txns.items) l c.args.end refusal) (whole_drop c.args.tokens.now c.args.at)
    (c.read_whole.ensures.refused refusal e)

pub returns-clause-fit : goal.returns-clause-fit
returns-clause-fit c = ok_map c.read_whole.result
    (λ parts are. parts_fit (schema_of c.args.app.now.tables.items) (transactions_of c.args.app.now.txns.items) (drop c.args.at c.args.tokens.now) parts c.requires.accepted.tables
    (subst (λ l. AreParts (schema_of c.args.app.now.tables.items) (transactions_of c.args.app.now.txns.items) l parts) (whole_drop c.args.tokens.now c.args.at) are)) c.read_whole.ensures.read
