use Rattle.std.proofs.Common.{sym, subst}
use Rattle.sv_core.specs.Document.{document_of}
use Rattle.sv_core.specs.WorldState.{AreStates}
use Rattle.sv_core.proofs.GrowLaws.{inboxes_fresh, states_fresh}
use Rattle.sv_core.proofs.world.World.start.Goals as goal

pub invariant_of-result : goal.invariant_of-result
invariant_of-result c =
    subst (λ m. AreStates (document_of m.doc) m.history c.in_ok-sites.sites.items) (sym c.in_ok-medium.ensures)
    (states_fresh (document_of c.args.doc.value) c.in_ok-sites.sites.items c.in_ok-sites.ensures)

pub returns : goal.returns
returns c = λ i. record {
  medium = c.in_ok-medium.ensures i;
  inboxes = inboxes_fresh (document_of c.args.doc.value) c.args.doc.value.sites c.in_ok-sites.sites.items c.in_ok-sites.ensures i;
}
