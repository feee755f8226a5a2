use Rattle.std.proofs.Common.{ap}
use Rattle.sv_app.specs.Schema.{schema_of}
use Rattle.sv_app.specs.Trees.{transactions_of}
use Rattle.sv_symbolic.proofs.LimitLaws.{accepted_narrow}
use Rattle.sv_symbolic.proofs.shapes.walk_unit.Goals as goal

pub invariant_of-setting : goal.invariant_of-setting
invariant_of-setting c = record {
  narrow = accepted_narrow (schema_of c.args.app.now.tables.items) (schema_of c.deref.result.now) (transactions_of c.args.app.now.txns.items) c.requires (ap schema_of c.deref.ensures.value);
}
