use Rattle.std.proofs.Common.{◌≡◌, Some, refl, slice_get, arith}
use Rattle.std.specs.Vec.{vec_capacity}
use Rattle.std.proofs.lemmas.Option.{slice_get_read}
use Rattle.sv_effect.specs.BareTables.{bare}
use Rattle.sv_core.proofs.ApplyLaws.{one_less, one_told}
use Rattle.sv_core.proofs.applying.told_all.Goals as goal

pub loop-ask-preserved : goal.loop-ask-preserved
loop-ask-preserved g c =
    let read : slice_get c.args.asks.now c.loop-ask.ask-index ≡ Some c.ask-item.result =
    slice_get_read c.args.asks.now _ c.loop-ask.ask-index c.ask-item.result refl (omega (arith, c.loop-ask-test.true)) c.ask-item.is in
    let after = c.push_reserved.ensures in (
      one_told (bare (g.S.RowStore.stamped c.args.store.now)) c.args.asks.now c.loop-ask.ask-index c.ask-item.result c.loop-ask.all.items c.push_reserved.new.self.items c.told.result
          c.loop-ask.invariant.0 read c.told.ensures after.items,
      one_less c.args.asks.now c.loop-ask.ask-index c.loop-ask.all.items c.push_reserved.new.self.items c.told.result (vec_capacity c.loop-ask.all) (vec_capacity c.push_reserved.new.self)
          c.loop-ask.invariant.1 after.items after.capacity,
    )
