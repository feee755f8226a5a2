use Rattle.std.proofs.Common.{sym}
use Rattle.sv_pool.proofs.PoolLaws.{found_in, gap_in, slot_given, slot_place, pool_there, pool_not_there}
use Rattle.sv_pool.proofs.pools.PoolStore.get.Goals as goal

pub at-requires : goal.at-requires
at-requires c =
    let found = found_in c.deref.ensures.value c.in-Ok.ensures.found in
    slot_given c.self.invariant found

pub returns-in-Ok-clause-value : goal.returns-in-Ok-clause-value
returns-in-Ok-clause-value c =
    let found = found_in c.deref.ensures.value c.in-Ok.ensures.found in
    sym (pool_there c.self.view_is c.self.invariant found c.at.ensures)

pub returns-in-Ok-clause-there : goal.returns-in-Ok-clause-there
returns-in-Ok-clause-there c =
    let found = found_in c.deref.ensures.value c.in-Ok.ensures.found in
    slot_place found c.at.ensures

pub returns-in-Err-clause-value : goal.returns-in-Err-clause-value
returns-in-Err-clause-value c =
    let gap = gap_in c.self.inside.rows.values c.deref.ensures.value c.in-Err.ensures.absent in
    sym (pool_not_there c.self.inside.index.items c.self.inside.rows c.self.view_is gap)
