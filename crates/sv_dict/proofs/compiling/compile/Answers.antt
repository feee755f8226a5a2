use Rattle.sv_app.specs.Schema.{schema_of}
use Rattle.sv_app.specs.Trees.{transactions_of}
use Rattle.sv_dict.proofs.RightLaws.{right_too}
use Rattle.sv_dict.proofs.compiling.compile.Goals as goal

pub returns-clause-right : goal.returns-clause-right
returns-clause-right c =
    right_too (schema_of c.args.app.now.tables.items) (transactions_of c.args.app.now.txns.items) c.frugal_of.result c.frugal_is_right.ensures c.requires.accepted c.frugal_of.ensures.frugal
