use Rattle.std.proofs.Common.{◌∙◌, ap}
use Rattle.sv_app.specs.Schema.{schema_of}
use Rattle.sv_typing.proofs.AcceptanceLaws.{narrow_tables}
use Rattle.sv_typing.proofs.acceptance.later_refusal.Goals as goal

pub first_unmet-requires : goal.first_unmet-requires
first_unmet-requires c =
    narrow_tables (schema_of c.args.tables.now) (schema_of c.deref.result.now) c.requires (ap schema_of c.deref.ensures.value ∙ c.in_ok-numbered_tables-in-None.ensures)
