use Rattle.std.proofs.Common.{subst}
use Rattle.std.specs.Vec.{vec_capacity}
use Rattle.sv_core.specs.Mediums.{AreNextCalls}
use Rattle.sv_core.proofs.KeepLaws.{next_calls}
use Rattle.sv_core.proofs.media.Medium.pending.Goals as goal

pub returns-in-Some-clause-nexts : goal.returns-in-Some-clause-nexts
returns-in-Some-clause-nexts c =
    let k = c.self.inside in
    subst AreNextCalls c.self.view_is (next_calls k.doc.value k.history.items k.published k.sessions.items (vec_capacity k.history) c.self.invariant.fields)

pub returns-in-None-clause-nexts : goal.returns-in-None-clause-nexts
returns-in-None-clause-nexts c =
    let k = c.self.inside in
    subst AreNextCalls c.self.view_is (next_calls k.doc.value k.history.items k.published k.sessions.items (vec_capacity k.history) c.self.invariant.fields)
