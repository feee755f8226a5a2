use Rattle.std.proofs.Common.{take, reverse}
use Rattle.std.specs.Prelude.{map}
use Rattle.sv_core.specs.Document.{document_of}
use Rattle.sv_legal.specs.Told.{Told}
use Rattle.sv_legal.proofs.histories.lists_of.Given as goal

abbrev pub invariant-loop-at : goal.invariant-loop-at
invariant-loop-at l = Told (document_of l.doc) (reverse (take l.at l.history)) (map (λ ops. ops.items) l.lists.items)
