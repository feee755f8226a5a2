use Rattle.std.proofs.Common.{◌-◌, ◌≤◌, length}
use Rattle.sv_pool.specs.Pooled.{kept_in}
use Rattle.sv_pool.proofs.SearchLaws.{Sides, IsBelow, IsAbove}
use Rattle.sv_pool.proofs.pools.search.Given as goal

abbrev pub invariant-loop-low : goal.invariant-loop-low
invariant-loop-low l = record {
  ordered : l.low ≤ l.high;
  within : l.high ≤ length l.index;
  sides : Sides (IsBelow l.place) (IsAbove l.place) (kept_in l.index l.rows.values) l.low l.high;
}

abbrev pub decreases-loop-low : goal.decreases-loop-low
decreases-loop-low l = l.high - l.low
