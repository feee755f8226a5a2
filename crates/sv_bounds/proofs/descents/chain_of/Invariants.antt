use Rattle.std.proofs.Common.{◌-◌, length}
use Rattle.sv_bounds.specs.Rounds.{lists}
use Rattle.sv_bounds.specs.Walks.{IsDescent}
use Rattle.sv_bounds.proofs.descents.chain_of.Given as goal

abbrev pub invariant-loop-r : goal.invariant-loop-r
invariant-loop-r l = IsDescent l.rows l.vars (lists l.rounds) (length l.rounds - 1) l.from l.r l.chain.items l.x

abbrev pub decreases-loop-r : goal.decreases-loop-r
decreases-loop-r l = l.r
