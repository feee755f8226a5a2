use Rattle.std.proofs.Common.{arith}
use Rattle.sv_effect.specs.BareTables.{bare}
use Rattle.sv_core.proofs.FetchLaws.{behind_more}
use Rattle.sv_core.proofs.fetches.fetch_behind.Goals as goal

pub loop-preserved : goal.loop-preserved
loop-preserved g c =
    let most = c.fetch_found-count.ensures.most in (
      behind_more (bare (g.S.RowStore.stamped c.args.store.now)) c.args.table c.args.after.now c.loop.last c.next_behind-next.result c.in-Some.key _ _ _ _ _ c.loop.invariant.0 c.in-Some.is
          c.next_behind-next.ensures.value c.fetch_found-count.ensures.adds,
      omega (arith, most, c.loop.invariant.1),
    )
