use Rattle.std.proofs.Common.{◌≡◌, take, reverse}
use Rattle.sv_core.specs.Document.{document_of}
use Rattle.sv_core.specs.History.{site_of}
use Rattle.sv_legal.proofs.counts.site_of.Given as goal

abbrev pub invariant-loop-entry : goal.invariant-loop-entry
invariant-loop-entry l = l.place ≡ site_of (document_of l.doc) (reverse (take l.entry-index l.history)) l.session
