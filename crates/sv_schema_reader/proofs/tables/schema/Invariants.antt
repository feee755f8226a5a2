use Rattle.std.proofs.Common.{◌≡◌, ◌≤◌, ◌*◌, length}
use Rattle.sv_app.specs.Schema.{schema_of}
use Rattle.sv_schema_reader.specs.Reading.{tables_at, invs_in}
use Rattle.sv_schema_reader.proofs.tables.schema.Given as goal

abbrev pub invariant-loop-alloc : goal.invariant-loop-alloc
invariant-loop-alloc l = record {
  others : tables_at (schema_of l.tables.items) l.reader.rest.now ≡ tables_at (schema_of l.initial.tables.items) l.initial.reader.rest.now;
  counted : l.count ≡ invs_in (schema_of l.tables.items);
  small : l.count ≤ 16 * length l.tables.items;
}

abbrev pub decreases-loop-alloc : goal.decreases-loop-alloc
decreases-loop-alloc l = length l.reader.rest.now
