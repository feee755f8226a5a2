use Rattle.std.proofs.Common.{ap, length, arith}
use Rattle.std.proofs.lemmas.List.{length-reverse}
use Rattle.sv_core.specs.Mediums.{doc_of}
use Rattle.sv_core.specs.WorldLaws.{IsFew}
use Rattle.sv_core.proofs.FinishLaws.{finishing_more}
use Rattle.sv_core.proofs.RoomLaws.{all_few}
use Rattle.sv_core.proofs.world.World.finish.Goals as goal

pub loop-place-preserved : goal.loop-place-preserved
loop-place-preserved c = record {
  finishing = finishing_more c.args.self.now c.loop-place.self c.catch_up.new.self c.loop-place.place c.site_after.result c.catch_up.result c.loop-place.invariant.finishing c.site_after.ensures
      c.catch_up.ensures.caught c.catch_up.ensures.world c.catch_up.ensures.whole;
}

pub overflow_cast-result : goal.overflow_cast-result
overflow_cast-result c =
    let w = c.loop-place.self in
    let f : IsFew (doc_of w.medium) w.medium.history = all_few (doc_of w.medium) w.medium.history c.history.ensures.lawful in
    let s = c.history.ensures.lawful.sound in
    omega (arith, ap length c.history.ensures.entries, length-reverse w.medium.history, f.long, f.asked, f.moved, s.asks, s.moves)
