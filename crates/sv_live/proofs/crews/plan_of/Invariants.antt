use Rattle.sv_live.specs.Crews.{HasCrews, IsPlanOf, duties_in}
use Rattle.sv_live.proofs.crews.plan_of.Given as goal

abbrev pub invariant-loop-place : goal.invariant-loop-place
invariant-loop-place l = IsPlanOf l.fn.office l.plan × HasCrews l.place l.fn.office.workers (duties_in l.plan.jobs.items)
