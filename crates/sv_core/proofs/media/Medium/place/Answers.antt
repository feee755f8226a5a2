use Rattle.std.proofs.Common.{reverse, subst, arith}
use Rattle.std.specs.Vec.{vec_capacity}
use Rattle.std.proofs.lemmas.List.{length-reverse}
use Rattle.sv_core.specs.Counts.{AreShort}
use Rattle.sv_core.specs.Document.{document_of}
use Rattle.sv_core.specs.History.{History, published}
use Rattle.sv_core.specs.Mediums.{doc_of}
use Rattle.sv_core.proofs.KeepLaws.{HasRoom, room_of}
use Rattle.sv_core.proofs.media.Medium.place.Goals as goal

pub overflow_cast-result : goal.overflow_cast-result
overflow_cast-result c =
    let k = c.self.inside in
    let doc = document_of k.doc.value in
    let h : History = reverse k.history.items in
    let room : HasRoom doc h (vec_capacity k.history) 0 = room_of doc h (vec_capacity k.history) 0 c.self.invariant.fields.lawful c.self.invariant.fields.space in
    omega (arith, room.long, c.len.ensures, k.history.ok.0, length-reverse k.history.items)

pub returns-clause-short : goal.returns-clause-short
returns-clause-short c = subst (λ m. AreShort (doc_of m) (published (doc_of m) m.history)) c.self.view_is c.self.invariant.fields.short
