use Rattle.std.proofs.Common.{◌∙◌, arith}
use Rattle.sv_hub.proofs.SightLaws.{own_inside}
use Rattle.sv_hub.proofs.StepLaws.{join_keeps, look_keeps}
use Rattle.sv_hub.proofs.hubs.Hub.join.Goals as goal

pub join_seat-requires : goal.join_seat-requires
join_seat-requires g c =
    let table = c.self.inside.table.shared.table_id in
    let name = g.V.History.name c.self.inside.table.shared.key.value in
    let one = own_inside table name c.one.inside.seat.table_id c.one.inside.seat.me.0 c.self.view_is c.one.view_is c.requires.0 in
    let other = own_inside table name c.other.inside.seat.table_id c.other.inside.seat.me.0 c.self.view_is c.other.view_is c.requires.1 in
    let words = c.self.invariant.0 in
    (one.0, other.0, c.other.invariant.0, omega arith, join_keeps _ _ _ _ _ _ _ c.one.invariant.1 c.other.invariant.1)

pub load-requires : goal.load-requires
load-requires g c =
    let one = own_inside c.self.inside.table.shared.table_id (g.V.History.name c.self.inside.table.shared.key.value) c.one.inside.seat.table_id c.one.inside.seat.me.0 c.self.view_is c.one.view_is c.requires.0 in
    let words = c.self.invariant.0 in
    (c.join_seat.ensures.0 ∙ one.0, omega arith, look_keeps _ _ _ _ _ c.one.inside.seat.me.0 c.other.inside.seat.me.0 c.one.inside.seat.me.1 c.join_seat.ensures.2 c.one.invariant.1)
