use Rattle.sv_hub.specs.Extends.{Extends}
use Rattle.sv_hub.specs.Sight.{Belongs}
use Rattle.sv_hub_trials.proofs.writers.write_lines.Given as goal

abbrev pub invariant-loop-number : goal.invariant-loop-number
invariant-loop-number g l = Belongs l.fn.hub l.mine × Extends l.mine.seen l.fn.pass.seen
