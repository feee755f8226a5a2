use Rattle.std.specs.Prelude.{◌≤◌}
use Rattle.sv_hub.specs.Extends.{Extends}
use Rattle.sv_hub.specs.Sight.{Belongs}
use Rattle.sv_hub_trials.proofs.writers.write_alternating.Given as goal

abbrev pub invariant-loop : goal.invariant-loop
invariant-loop g l = Belongs l.fn.hub l.mine × Extends l.mine.seen l.fn.pass.seen × (l.number ≤ l.fn.count)
