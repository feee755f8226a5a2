use Rattle.std.proofs.Common.{refl, ◌<◌, length, arith, get_or}
use Rattle.sv_app.specs.Schema.{declaration_of, schema_of}
use Rattle.sv_typing.proofs.CycleLaws.{declared_at, leads_from, schema_long}
use Rattle.sv_typing.proofs.cycles.first_cycle.Goals as goal

pub returns-then-is_on_cycle : goal.returns-then-is_on_cycle
returns-then-is_on_cycle c = record {
  number = c.loop-table.table;
  table = declaration_of (get_or c.args.tables.now c.loop-table.table c.index-tables-table.result);
  stands = declared_at c.args.tables.now c.loop-table.table c.index-tables-table.result c.loop-table-test.true;
  cyclic = c.is_on_cycle.ensures.cyclic c.if-is_on_cycle.true;
  first = c.loop-table.invariant;
  is = refl;
}

pub returns : goal.returns
returns c = λ table cyclic.
    let within : table < length (schema_of c.args.tables.now) = leads_from (schema_of c.args.tables.now) table table cyclic in
    c.loop-table.invariant table (omega (arith, within, schema_long c.args.tables.now, c.loop-table-test.false)) cyclic
