use Rattle.sv_core.specs.Document.{document_of}
use Rattle.sv_core.specs.Standing.{AreFresh}
use Rattle.sv_core.proofs.sites.fresh_sites.Given as goal

abbrev pub invariant-loop-place : goal.invariant-loop-place
invariant-loop-place l = AreFresh (document_of l.doc.value) l.place l.sites.items
