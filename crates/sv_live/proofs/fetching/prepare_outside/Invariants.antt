use Rattle.std.proofs.Common.{◌≡◌}
use Rattle.sv_hub.specs.Extends.{Extends}
use Rattle.sv_hub.specs.Sight.{Belongs}
use Rattle.sv_core.specs.Document.{document_of}
use Rattle.sv_core.specs.Legal.{Legal}
use Rattle.sv_live.proofs.fetching.prepare_outside.Given as goal

abbrev pub invariant-loop : goal.invariant-loop
invariant-loop g l = record {
  own : Belongs l.fn.hub l.mine;
  seen : Extends l.mine.seen l.fn.pass.seen;
  legal : Legal (document_of l.fn.hub.name) l.mine.seen;
  sheet : l.sheet.doc ≡ l.fn.hub.name;
}
