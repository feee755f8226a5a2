use Rattle.std.proofs.Common.{rules, inl, inr}
use Rattle.sv_core.specs.Document.{document_of}
use Rattle.sv_live.specs.declared.crews.Duty.TheVariants.{Requests}
use Rattle.sv_live.proofs.CrewLaws.{gathers_next}
use Rattle.sv_live.proofs.crews.sessions_of.Goals.{then-is_of+in_ok-reserve, else-is_of}
use Rattle.sv_live.proofs.crews.sessions_of.Goals as goal

pub loop-place-preserved : goal.loop-place-preserved
loop-place-preserved c =
    let next = gathers_next (document_of c.args.office.now.hub.name) c.args.office.now.workers (Requests c.args.site c.args.worker) c.loop-place.place c.loop-place.sessions.items
    c.if-is_of.sessions.items c.loop-place.invariant (search rules) in
    elim c.if-is_of.branch [ then-is_of+in_ok-reserve w ↦ next (inl (search rules)) | else-is_of w ↦ next (inr (search rules, search rules)) ]
