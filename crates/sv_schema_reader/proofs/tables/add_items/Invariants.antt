use Rattle.std.proofs.Common.{◌≡◌, ◌≤◌, length}
use Rattle.sv_app.specs.Schema.{declaration_of}
use Rattle.sv_reader.specs.Reading.{others_at}
use Rattle.sv_schema_reader.specs.Reading.{item_step}
use Rattle.sv_schema_reader.proofs.tables.add_items.Given as goal

abbrev pub invariant-loop-alloc : goal.invariant-loop-alloc
invariant-loop-alloc l = record {
  others : others_at (item_step l.count) (declaration_of l.table) l.reader.rest.now ≡ others_at (item_step l.count) (declaration_of l.initial.table) l.initial.reader.rest.now;
  few : length l.table.invs.items ≤ 16;
}

abbrev pub decreases-loop-alloc : goal.decreases-loop-alloc
decreases-loop-alloc l = length l.reader.rest.now
