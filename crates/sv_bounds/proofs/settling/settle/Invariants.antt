use Rattle.sv_bounds.specs.Rounds.{lists}
use Rattle.sv_bounds.specs.Settling.{IsSettling}
use Rattle.sv_bounds.proofs.settling.settle.Given as goal

abbrev pub invariant-loop : goal.invariant-loop
invariant-loop l = IsSettling l.rows l.fn.start.items (lists l.rounds.items) l.counter l.x
