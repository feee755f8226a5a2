use Rattle.std.proofs.Common.{◌≡◌, ◌++◌, ◌-◌}
use Rattle.sv_workload.specs.Made.{made, steps_drawn}
use Rattle.sv_workload.proofs.makes.made.Given as goal

abbrev pub invariant-loop : goal.invariant-loop
invariant-loop l = l.steps ++ steps_drawn (l.n - l.counter) l.rng ≡ made l.seed l.n
