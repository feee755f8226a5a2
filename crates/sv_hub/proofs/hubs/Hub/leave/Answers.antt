use Rattle.std.proofs.Common.{◌∙◌, arith}
use Rattle.sv_hub.proofs.SightLaws.{given_inside}
use Rattle.sv_hub.proofs.StepLaws.{give_keeps}
use Rattle.sv_hub.proofs.hubs.Hub.leave.Goals as goal

pub store-requires : goal.store-requires
store-requires g c =
    let given =
    given_inside g.V.History.name g.V.History.past c.self.inside.table.shared.table_id (g.V.History.name c.self.inside.table.shared.key.value) c.turn.inside.value c.turn.inside.seat.table_id c.turn.inside.seat.me.0
    c.self.view_is c.turn.view_is c.requires.own c.requires.name c.requires.past in
    let words = c.self.invariant.0 in
    (c.exchange-empty.ensures.0 ∙ given.0, omega arith, give_keeps _ _ _ _ _ _ c.turn.inside.value _ c.exchange-empty.ensures.3 c.turn.invariant.1 given.1 given.2)
