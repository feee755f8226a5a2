use Rattle.std.proofs.Common.{ap}
use Rattle.sv_app.specs.Schema.{schema_of}
use Rattle.sv_effect.specs.RunChanges.{effect_of}
use Rattle.sv_plain_threats.proofs.DecideLaws.{named_ok}
use Rattle.sv_plain_threats.proofs.threats.is_threatened.Goals as goal

pub returns-in-Unique : goal.returns-in-Unique
returns-in-Unique c =
    named_ok c.args.reach (schema_of c.args.app.now.tables.items) (schema_of c.as_slice.result.now) (effect_of c.args.change.now) c.args.reason c.any_table.result c.in-Unique.is
    (ap schema_of c.as_slice.ensures.value) c.any_table.ensures
