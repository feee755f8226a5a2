use Rattle.std.proofs.Common.{◌≡◌, drop}
use Rattle.std.specs.List.{find}
use Rattle.sv_app.specs.Lookups.{is_named}
use Rattle.sv_typing.proofs.lookups.column_of.Given as goal

abbrev pub invariant-loop-column : goal.invariant-loop-column
invariant-loop-column l = find (λ c. is_named c.name l.name) (drop l.column-index l.table.columns.items) ≡ find (λ c. is_named c.name l.name) l.table.columns.items
