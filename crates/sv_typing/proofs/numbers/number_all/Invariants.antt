use Rattle.std.proofs.Common.{◌≡◌, take, map}
use Rattle.sv_app.specs.Numbers.{numbered_table}
use Rattle.sv_app.specs.Schema.{declaration_of, schema_of}
use Rattle.sv_typing.proofs.numbers.number_all.Given as goal

abbrev pub invariant-loop-table : goal.invariant-loop-table
invariant-loop-table l = map declaration_of l.copies.items ≡ map (numbered_table (schema_of l.tables)) (map declaration_of (take l.table-index l.tables))
