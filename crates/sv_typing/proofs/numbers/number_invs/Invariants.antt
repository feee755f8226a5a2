use Rattle.std.proofs.Common.{◌≡◌, take, map}
use Rattle.sv_app.specs.Numbers.{numbered_invariant}
use Rattle.sv_app.specs.Schema.{declaration_of, schema_of, invariant_of}
use Rattle.sv_typing.proofs.numbers.number_invs.Given as goal

abbrev pub invariant-loop-inv : goal.invariant-loop-inv
invariant-loop-inv l = map invariant_of l.invs.items ≡ map (numbered_invariant (schema_of l.tables) (declaration_of l.table)) (map invariant_of (take l.inv-index l.table.invs.items))
