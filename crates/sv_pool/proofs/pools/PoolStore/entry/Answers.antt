use Rattle.std.proofs.Common.{◌≡◌, length, Some, ap, subst, slice_get, arith}
use Rattle.sv_pool.specs.Pooled.{kept_in}
use Rattle.sv_pool.proofs.PoolLaws.{pool_many, pool_entry}
use Rattle.sv_pool.proofs.pools.PoolStore.entry.Goals as goal

pub row_at-requires-clause-within : goal.row_at-requires-clause-within
row_at-requires-clause-within c = omega (arith, c.requires, ap length c.deref.ensures.value, pool_many c.self.view_is c.self.invariant)

pub returns : goal.returns
returns c =
    pool_entry c.args.at c.self.view_is c.self.invariant
    (subst (λ index. slice_get (kept_in index c.self.inside.rows.values) c.args.at ≡ Some c.row_at.result.now) c.deref.ensures.value c.row_at.ensures)
