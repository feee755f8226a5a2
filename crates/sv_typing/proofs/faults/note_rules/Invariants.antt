use Rattle.std.proofs.Common.{◌≡◌, take, map}
use Rattle.std.specs.List.{flat_map}
use Rattle.sv_app.specs.Schema.{declaration_of, schema_of, invariant_of}
use Rattle.sv_app.specs.Typing.{rule_faults}
use Rattle.sv_typing.specs.Noted.{noted}
use Rattle.sv_typing.proofs.faults.note_rules.Given as goal

abbrev pub invariant-loop-inv : goal.invariant-loop-inv
invariant-loop-inv l = l.first.held ≡ noted l.initial.first.held (flat_map (λ inv. rule_faults (schema_of l.tables) (declaration_of l.table) inv.rule) (map invariant_of (take l.inv-index l.table.invs.items)))
