use Rattle.std.proofs.Common.{◌∷◌, ℕ, List, Option, Some, sym, ap, ◌∙◌, arith}
use Rattle.atomic_table.specs.Table.{rest}
use Rattle.sv_hub.proofs.SightLaws.{own_inside}
use Rattle.sv_hub.proofs.StepLaws.{take_keeps}
use Rattle.sv_hub.proofs.hubs.Hub.try_enter.Goals as goal

pub compare_exchange-requires : goal.compare_exchange-requires
compare_exchange-requires g c =
    let own = own_inside c.self.inside.table.shared.table_id (g.V.History.name c.self.inside.table.shared.key.value) c.pass.inside.seat.table_id c.pass.inside.seat.me.0 c.self.view_is c.pass.view_is c.requires in
    let words = c.self.invariant.0 in
    (own.0, omega arith, take_keeps _ _ _ _ _ _ _ _ c.pass.invariant.1 own.1)

pub exchange-requires : goal.exchange-requires
exchange-requires g c =
    let own = own_inside c.self.inside.table.shared.table_id (g.V.History.name c.self.inside.table.shared.key.value) c.pass.inside.seat.table_id c.pass.inside.seat.me.0 c.self.view_is c.pass.view_is c.requires in
    let took = c.compare_exchange.ensures.2.0 (omega (arith, c.if-compare_exchange-ne-FREE.false)) in
    (c.compare_exchange.ensures.0 ∙ own.0, (Some took.value, took.slot ∙ ap (λ (l : List (ℕ × Option g.row.V.Denot)). (0, Some took.value) ∷ l) (sym (ap rest took.slot))))
