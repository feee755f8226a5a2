use Rattle.std.proofs.Common.{◌≡◌, drop}
use Rattle.std.specs.List.{find}
use Rattle.sv_app.specs.Lookups.{is_named}
use Rattle.sv_typing.proofs.fills.table_of_row.Given as goal

abbrev pub invariant-loop-declared : goal.invariant-loop-declared
invariant-loop-declared l = find (λ d. is_named d.name l.row) (drop l.declared-index l.names) ≡ find (λ d. is_named d.name l.row) l.names
