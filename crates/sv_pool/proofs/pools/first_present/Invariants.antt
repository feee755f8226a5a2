use Rattle.std.proofs.Common.{◌≡◌, drop}
use Rattle.sv_store.specs.Rest.{first_present}
use Rattle.sv_pool.specs.Pooled.{kept_in}
use Rattle.sv_pool.proofs.pools.first_present.Given as goal

abbrev pub invariant-loop-at : goal.invariant-loop-at
invariant-loop-at l = first_present l.table (drop l.at (kept_in l.index l.rows.values)) ≡ first_present l.table (drop l.start (kept_in l.index l.rows.values))
