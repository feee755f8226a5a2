use Rattle.std.proofs.Common.{rules, ◌≡◌, ◌+◌, slice_get, Some, arith}
use Rattle.sv_value.specs.Cuts.{counts, number, origin}
use Rattle.sv_core.specs.Packets.{packets_in}
use Rattle.sv_core.proofs.EventLaws.{catches_applied, catches_end, catches_few, catches_had, catches_next, catches_same, had_if, catches_whole, inside, outside, packet_read}
use Rattle.sv_core.proofs.sites.SiteState.catch_up.Goals as goal
use Rattle.sv_core.proofs.sites.SiteState.catch_up.Goals.{then-lacks, else-lacks}

pub apply-requires-clause-next : goal.apply-requires-clause-next
apply-requires-clause-next c =
    let up = c.loop-place.invariant.up in
    let get : slice_get (packets_in c.loop-place.m.history) c.loop-place.place ≡ Some c.index-packets-place.result =
    packet_read c.args.m.now c.loop-place.m c.args.self.now c.loop-place.self c.loop-place.place c.loop-place.count c.packets-many.result.now c.packets.result.now c.index-packets-place.result up
    c.packets-many.ensures.packets c.packets.ensures.packets (search rules) c.index-packets-place.is in
    catches_next c.args.m.now c.loop-place.m c.args.self.now c.loop-place.self c.loop-place.place c.loop-place.count c.index-packets-place.result up get (search rules)

pub overflow_add-count : goal.overflow_add-count
overflow_add-count c =
    omega (
      arith,
      catches_few c.args.m.now c.loop-place.m c.args.self.now c.loop-place.self c.loop-place.place c.loop-place.count c.loop-place.invariant.up
          (inside c.args.m.now c.loop-place.m c.args.self.now c.loop-place.self c.loop-place.place c.loop-place.count c.packets-many.result.now c.loop-place.invariant.up c.packets-many.ensures.packets (search rules)),
    )

pub loop-place-preserved : goal.loop-place-preserved
loop-place-preserved c =
    let up = c.loop-place.invariant.up in
    let get : slice_get (packets_in c.loop-place.m.history) c.loop-place.place ≡ Some c.index-packets-place.result =
    packet_read c.args.m.now c.loop-place.m c.args.self.now c.loop-place.self c.loop-place.place c.loop-place.count c.packets-many.result.now c.packets.result.now c.index-packets-place.result up
    c.packets-many.ensures.packets c.packets.ensures.packets (search rules) c.index-packets-place.is in
    elim c.if-lacks.branch [
      | then-lacks w ↦ record {
        up =
            catches_same c.args.m.now w.apply.new.m c.if-lacks.m c.args.self.now w.apply.new.self c.if-lacks.self (c.loop-place.place + 1) (c.loop-place.count + 1) c.if-lacks.count
            (catches_applied c.args.m.now c.loop-place.m c.args.self.now c.loop-place.self c.loop-place.place c.loop-place.count c.index-packets-place.result w.apply.new.m w.apply.new.self up get (search rules)
            w.apply.ensures.medium w.apply.ensures.left w.apply.ensures.inbox) w.m-is w.self-is w.count-is;
      }
      | else-lacks w ↦ record {
        up =
            catches_same c.args.m.now c.loop-place.m c.if-lacks.m c.args.self.now c.loop-place.self c.if-lacks.self (c.loop-place.place + 1) c.loop-place.count c.if-lacks.count
            (catches_had c.args.m.now c.loop-place.m c.args.self.now c.loop-place.self c.loop-place.place c.loop-place.count c.index-packets-place.result up get
            (had_if c.lacks.result (number c.index-packets-place.result) (counts c.loop-place.self.cut (origin c.index-packets-place.result)) c.lacks.ensures (search rules))) w.m-is w.self-is w.count-is;
      }
    ]

pub returns-clause-caught : goal.returns-clause-caught
returns-clause-caught c =
    let up = c.loop-place.invariant.up in
    catches_end c.args.m.now c.loop-place.m c.args.self.now c.loop-place.self c.loop-place.place c.loop-place.count up
    (outside c.args.m.now c.loop-place.m c.args.self.now c.loop-place.self c.loop-place.place c.loop-place.count c.packets-many.result.now up c.packets-many.ensures.packets (search rules))

pub returns-clause-whole : goal.returns-clause-whole
returns-clause-whole c =
    let up = c.loop-place.invariant.up in
    catches_whole c.args.m.now c.loop-place.m c.args.self.now c.loop-place.self c.loop-place.place c.loop-place.count up
    (outside c.args.m.now c.loop-place.m c.args.self.now c.loop-place.self c.loop-place.place c.loop-place.count c.packets-many.result.now up c.packets-many.ensures.packets (search rules))
