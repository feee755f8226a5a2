use Rattle.std.proofs.Common.{◌+◌}
use Rattle.sv_live.specs.Crews.{HasCrew, HasCrews, IsPlanOf, duties_in}
use Rattle.sv_live.proofs.crews.Plan.with_crew.Given as goal

abbrev pub invariant-loop-worker : goal.invariant-loop-worker
invariant-loop-worker l =
    IsPlanOf l.fn.office l.plan
    × HasCrews l.fn.place l.fn.office.workers (duties_in l.plan.jobs.items)
    × HasCrew (l.fn.place + 1) l.worker (duties_in l.plan.jobs.items)
