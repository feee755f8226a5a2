use Rattle.std.proofs.Common.{◌≡◌, drop, map}
use Rattle.std.specs.List.{find}
use Rattle.sv_app.specs.Lookups.{is_named}
use Rattle.sv_app.specs.Schema.{declaration_of}
use Rattle.sv_typing.proofs.lookups.table_of.Given as goal

abbrev pub invariant-loop-table : goal.invariant-loop-table
invariant-loop-table l = find (λ t. is_named t.name l.name) (map declaration_of (drop l.table-index l.tables)) ≡ find (λ t. is_named t.name l.name) (map declaration_of l.tables)
