use Rattle.sv_core.proofs.EventLaws.{CatchesUp}
use Rattle.sv_core.proofs.sites.SiteState.catch_up.Given as goal

abbrev pub invariant-loop-place : goal.invariant-loop-place
invariant-loop-place l = record { up : CatchesUp l.initial.m l.m l.initial.self l.self l.place l.count }
