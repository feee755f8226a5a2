use Rattle.std.proofs.Common.{subst}
use Rattle.sv_core.specs.Counts.{AreShort}
use Rattle.sv_core.specs.History.{published}
use Rattle.sv_core.specs.Mediums.{doc_of}
use Rattle.sv_core.proofs.media.Medium.op.Goals as goal

pub returns-clause-short : goal.returns-clause-short
returns-clause-short c = subst (λ m. AreShort (doc_of m) (published (doc_of m) m.history)) c.self.view_is c.self.invariant.fields.short
