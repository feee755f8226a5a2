use Rattle.sv_bounds.specs.Rounds.{IsNext}
use Rattle.sv_bounds.proofs.rounds.next_round.Given as goal

abbrev pub invariant-loop-i : goal.invariant-loop-i
invariant-loop-i l = IsNext l.rows l.i l.old l.new.items
