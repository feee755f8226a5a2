use Rattle.std.proofs.Common.{◌≡◌, filter, map, take}
use Rattle.std.specs.Prelude.{not}
use Rattle.sv_app.specs.declared.schemas.Column.{Column}
use Rattle.sv_app.specs.Lookups.{is_key}
use Rattle.sv_app.specs.Schema.{declaration_of}
use Rattle.sv_typing.proofs.values.drawn_columns.Given as goal

abbrev pub invariant-loop-column : goal.invariant-loop-column
invariant-loop-column l =
    l.names.items ≡ filter (λ name. not (is_key (declaration_of l.table) name)) (map (λ (c : Column). c.name) (take l.column-index l.table.columns.items))
