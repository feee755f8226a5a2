use Rattle.std.proofs.Common.{◌≡◌, take, map}
use Rattle.sv_app.specs.Numbers.{numbered_column}
use Rattle.sv_app.specs.Schema.{declaration_of}
use Rattle.sv_typing.proofs.numbers.number_columns.Given as goal

abbrev pub invariant-loop-column : goal.invariant-loop-column
invariant-loop-column l = l.columns.items ≡ map (numbered_column (declaration_of l.table)) (take l.column-index l.table.columns.items)
