use Rattle.std.proofs.Common.{refl, arith}
use Rattle.std.specs.Vec.{vec_capacity}
use Rattle.sv_pool.proofs.PoolLaws.{found_in, gap_in, slot_given, gap_within, pool_spare, holds_set, pool_set, kept_by, holds_kept, pool_kept}
use Rattle.sv_pool.proofs.pools.PoolStore.put.Goals as goal

pub at_mut-requires : goal.at_mut-requires
at_mut-requires c =
    let found = found_in c.deref.ensures.value c.in-Ok.ensures.found in
    slot_given c.self.invariant found

pub invariant_of-self : goal.invariant_of-self
invariant_of-self c =
    let found = found_in c.deref.ensures.value c.in-Ok.ensures.found in
    holds_set c.args.row c.self.invariant found refl

pub keep-requires-clause-within : goal.keep-requires-clause-within
keep-requires-clause-within c =
    let gap = gap_in c.self.inside.rows.values c.deref.ensures.value c.in-Err.ensures.absent in
    gap_within c.self.invariant gap

pub keep-requires-clause-space : goal.keep-requires-clause-space
keep-requires-clause-space c =
    let gap = gap_in c.self.inside.rows.values c.deref.ensures.value c.in-Err.ensures.absent in
    omega (arith, c.self.invariant.space, pool_spare c.self.inside.index.items c.self.inside.rows c.self.view_is gap c.requires)

pub keep-requires-clause-spare : goal.keep-requires-clause-spare
keep-requires-clause-spare c =
    let gap = gap_in c.self.inside.rows.values c.deref.ensures.value c.in-Err.ensures.absent in
    pool_spare c.self.inside.index.items c.self.inside.rows c.self.view_is gap c.requires

pub invariant_of-self-in-Err : goal.invariant_of-self-in-Err
invariant_of-self-in-Err c =
    let gap = gap_in c.self.inside.rows.values c.deref.ensures.value c.in-Err.ensures.absent in
    let kept =
    kept_by c.self.inside.index.items c.self.inside.rows (vec_capacity c.self.inside.index) c.in-Err.at c.args.row
    c.keep.ensures.index c.keep.ensures.values c.keep.ensures.spare c.keep.ensures.capacity in
    holds_kept c.self.invariant gap kept

pub returns-in-Ok : goal.returns-in-Ok
returns-in-Ok c =
    let found = found_in c.deref.ensures.value c.in-Ok.ensures.found in
    pool_set c.args.row c.self.view_is c.self.invariant found refl

pub returns-in-Err : goal.returns-in-Err
returns-in-Err c =
    let gap = gap_in c.self.inside.rows.values c.deref.ensures.value c.in-Err.ensures.absent in
    let kept =
    kept_by c.self.inside.index.items c.self.inside.rows (vec_capacity c.self.inside.index) c.in-Err.at c.args.row
    c.keep.ensures.index c.keep.ensures.values c.keep.ensures.spare c.keep.ensures.capacity in
    pool_kept c.self.view_is c.self.invariant gap kept
