use Rattle.std.proofs.Common.{◌≡◌, take, map}
use Rattle.std.specs.List.{flat_map}
use Rattle.sv_app.specs.Schema.{declaration_of, schema_of}
use Rattle.sv_app.specs.Typing.{table_faults}
use Rattle.sv_typing.specs.Noted.{noted}
use Rattle.sv_typing.proofs.faults.note_tables.Given as goal

abbrev pub invariant-loop-table : goal.invariant-loop-table
invariant-loop-table l = l.first.held ≡ noted l.initial.first.held (flat_map (λ t. table_faults (schema_of l.tables) t) (map declaration_of (take l.table-index l.tables)))
