use Rattle.sv_core.specs.Document.{document_of}
use Rattle.sv_live.specs.Crews.{Gathers}
use Rattle.sv_live.specs.declared.crews.Duty.TheVariants.{Requests}
use Rattle.sv_live.proofs.crews.sessions_of.Given as goal

abbrev pub invariant-loop-place : goal.invariant-loop-place
invariant-loop-place l = Gathers (document_of l.fn.office.hub.name) l.fn.office.workers (Requests l.fn.site l.fn.worker) l.place l.sessions.items
