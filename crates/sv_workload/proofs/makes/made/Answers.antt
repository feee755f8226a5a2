use Rattle.std.proofs.Common.{rules, ◌∙◌, ◌+◌, ◌-◌, ◌++◌, ap}
use Rattle.sv_workload.specs.Made.{steps_drawn}
use Rattle.sv_workload.proofs.MadeLaws.{more_drawn}
use Rattle.sv_workload.proofs.makes.made.Goals as goal

pub loop-preserved : goal.loop-preserved
loop-preserved c =
    ap (λ l. l ++ steps_drawn (c.args.n - (c.loop.counter + 1)) c.draw_step.new.rng) c.in_ok-push.ensures.ok
    ∙ more_drawn _ c.loop.steps c.args.n c.loop.counter c.loop.rng c.draw_step.new.rng _ c.loop.invariant (search rules) c.in_ok-draw_step.ensures
