use Rattle.std.proofs.Common.{arith}
use Rattle.sv_hub.proofs.SightLaws.{own_inside}
use Rattle.sv_hub.proofs.StepLaws.{split_keeps}
use Rattle.sv_hub.proofs.hubs.Hub.split.Goals as goal

pub split_seat-other-requires : goal.split_seat-other-requires
split_seat-other-requires g c =
    let own = own_inside c.self.inside.table.shared.table_id (g.V.History.name c.self.inside.table.shared.key.value) c.pass.inside.seat.table_id c.pass.inside.seat.me.0 c.self.view_is c.pass.view_is c.requires in
    let words = c.self.invariant.0 in
    (own.0, omega arith, split_keeps _ _ _ _ _ c.pass.invariant.1)
