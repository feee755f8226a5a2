use Rattle.std.proofs.Common.{◌≡◌, drop, map}
use Rattle.std.specs.Prelude.{◌==◌}
use Rattle.std.specs.List.{list_any}
use Rattle.sv_app.specs.Lookups.{holds_of}
use Rattle.sv_app.specs.References.{referred}
use Rattle.sv_app.specs.Schema.{Invariant, schema_of, invariant_of}
use Rattle.sv_typing.proofs.cycles.has_reference.Given as goal

abbrev pub invariant-loop-inv : goal.invariant-loop-inv
invariant-loop-inv l =
    list_any (λ (inv : Invariant). holds_of (referred (schema_of l.tables) inv.rule) (λ place. place == l.other)) (map invariant_of (drop l.inv-index l.table.invs.items))
    ≡ list_any (λ (inv : Invariant). holds_of (referred (schema_of l.tables) inv.rule) (λ place. place == l.other)) (map invariant_of l.table.invs.items)
