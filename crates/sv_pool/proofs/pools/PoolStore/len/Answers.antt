use Rattle.std.proofs.Common.{arith}
use Rattle.sv_pool.proofs.PoolLaws.{pool_many}
use Rattle.sv_pool.proofs.pools.PoolStore.len.Goals as goal

pub returns : goal.returns
returns c = omega (arith, c.len.ensures, c.self.inside.index.ok.0, pool_many c.self.view_is c.self.invariant)
