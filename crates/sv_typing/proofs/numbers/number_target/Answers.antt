use Rattle.sv_app.specs.Lookups.{is_named}
use Rattle.sv_app.specs.Schema.{Declaration, declaration_of, schema_of}
use Rattle.sv_typing.proofs.AcceptanceLaws.{found_small}
use Rattle.sv_typing.proofs.numbers.number_target.Goals as goal

pub number_column-requires : goal.number_column-requires
number_column-requires c =
    (found_small (λ (t : Declaration). is_named t.name c.args.parent.now) (schema_of c.args.tables.now) (declaration_of c.in-Some.other.now) c.in-Some.ensures c.requires.each).columns
