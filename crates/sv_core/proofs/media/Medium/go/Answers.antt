use Rattle.std.proofs.Common.{◌≡◌, length, reverse, sym, ap, arith}
use Rattle.std.specs.Vec.{vec_capacity}
use Rattle.std.proofs.lemmas.List.{length-reverse}
use Rattle.sv_core.specs.Document.{document_of}
use Rattle.sv_core.specs.History.{History}
use Rattle.sv_core.specs.Mediums.{proposal_of}
use Rattle.sv_core.proofs.KeepLaws.{HasRoom, room_of, no_index}
use Rattle.sv_core.proofs.media.Medium.go.Goals as goal

pub overflow_cast-place : goal.overflow_cast-place
overflow_cast-place c =
    let k = c.self.inside in
    let doc = document_of k.doc.value in
    let h : History = reverse k.history.items in
    let room : HasRoom doc h (vec_capacity k.history) c.args.session =
    room_of doc h (vec_capacity k.history) c.args.session c.self.invariant.fields.lawful c.self.invariant.fields.space in
    omega (arith, room.long, c.len-place.ensures, k.history.ok.0, length-reverse k.history.items)

pub returns-in-None : goal.returns-in-None
returns-in-None c =
    let k = c.self.inside in
    let e = c.in-None.ensures.index in
    let long : c.len-place.result ≡ length c.args.self.now.history =
    omega (arith, c.len-place.ensures, k.history.ok.0, length-reverse k.history.items, ap (λ m. length m.history) c.self.view_is) in
    (no_index (proposal_of c.args.self.now c.args.session) (sym e), long, c.add_move.ensures)
