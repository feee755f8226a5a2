use Rattle.std.proofs.Common.{◌≡◌, take, map}
use Rattle.sv_app.specs.Lookups.{column_names}
use Rattle.sv_app.specs.Numbers.{numbered_in}
use Rattle.sv_app.specs.Schema.{declaration_of}
use Rattle.sv_typing.proofs.numbers.number_key.Given as goal

abbrev pub invariant-loop-name : goal.invariant-loop-name
invariant-loop-name l = l.key.items ≡ map (numbered_in (column_names (declaration_of l.table))) (take l.name-index l.table.key.items)
