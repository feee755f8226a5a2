use Rattle.sv_bounds.specs.Rounds.{lists}
use Rattle.sv_bounds.specs.Walks.{IsWalk}
use Rattle.sv_bounds.proofs.walks.cycle.Given as goal

abbrev pub invariant-down : goal.invariant-down
invariant-down l = IsWalk l.rows l.vars (lists l.rounds) l.r l.seen.items l.chain.items l.x

abbrev pub decreases-down : goal.decreases-down
decreases-down l = l.r
