use Rattle.std.proofs.Common.{◌≡◌, ◌<◌, ◌+◌, ◌≤◌, length, reverse, ap, ◌∙◌, arith}
use Rattle.std.specs.Vec.{vec_capacity}
use Rattle.sv_effect.specs.Takes.{inserts}
use Rattle.sv_core.specs.Document.{document_of}
use Rattle.sv_core.specs.History.{History, published}
use Rattle.sv_core.specs.Mediums.{doc_of}
use Rattle.sv_core.specs.Room.{lack_of, rows_used, changes_used}
use Rattle.sv_core.proofs.KeepLaws.{HasRoom, room_of}
use Rattle.sv_core.proofs.PublicationLaws.{inserts_few}
use Rattle.sv_core.proofs.StartLaws.{lacks_rows, lacks_changes, lacks_nothing, parts}
use Rattle.sv_core.proofs.media.Medium.lack.Goals as goal

pub overflow_add-rows : goal.overflow_add-rows
overflow_add-rows c =
    let k = c.self.inside in
    let doc = document_of k.doc.value in
    let h : History = reverse k.history.items in
    let rows : c.len.result + c.inserts.result ≡ rows_used doc (published doc h) =
    omega (arith, c.len.ensures, ap (λ d. length d.init) c.deref.ensures, c.inserts.ensures, c.self.invariant.fields.ops.inserts) in
    let room : HasRoom doc h (vec_capacity k.history) 0 = room_of doc h (vec_capacity k.history) 0 c.self.invariant.fields.lawful c.self.invariant.fields.space in
    omega (arith, rows, room.rows)

pub overflow_add-rows-2 : goal.overflow_add-rows-2
overflow_add-rows-2 c =
    let k = c.self.inside in
    let doc = document_of k.doc.value in
    let h : History = reverse k.history.items in
    let rows : c.len.result + c.inserts.result ≡ rows_used doc (published doc h) =
    omega (arith, c.len.ensures, ap (λ d. length d.init) c.deref.ensures, c.inserts.ensures, c.self.invariant.fields.ops.inserts) in
    let room : HasRoom doc h (vec_capacity k.history) 0 = room_of doc h (vec_capacity k.history) 0 c.self.invariant.fields.lawful c.self.invariant.fields.space in
    omega (arith, rows, room.rows, c.inserts_of.ensures, inserts_few c.args.effects.now, c.requires)

pub returns-then-rows-inserts_of : goal.returns-then-rows-inserts_of
returns-then-rows-inserts_of c =
    let k = c.self.inside in
    let doc = document_of k.doc.value in
    let h : History = reverse k.history.items in
    let rows : c.len.result + c.inserts.result ≡ rows_used doc (published doc h) =
    omega (arith, c.len.ensures, ap (λ d. length d.init) c.deref.ensures, c.inserts.ensures, c.self.invariant.fields.ops.inserts) in
    let more : doc.rows < c.len.result + c.inserts.result + inserts c.args.effects.now =
    omega (arith, c.if-rows-inserts_of.true, c.inserts_of.ensures, ap (λ d. d.rows) c.deref-2.ensures) in
    lacks_rows doc (published doc h) c.args.effects.now (c.len.result + c.inserts.result) rows more
    ∙ ap (λ m. parts (lack_of (doc_of m) (published (doc_of m) m.history) c.args.effects.now)) c.self.view_is

pub overflow_add-changes : goal.overflow_add-changes
overflow_add-changes c =
    let k = c.self.inside in
    let doc = document_of k.doc.value in
    let h : History = reverse k.history.items in
    let changes : c.changes-changes.result ≡ changes_used (published doc h) = c.changes-changes.ensures ∙ c.self.invariant.fields.ops.changes in
    let room : HasRoom doc h (vec_capacity k.history) 0 = room_of doc h (vec_capacity k.history) 0 c.self.invariant.fields.lawful c.self.invariant.fields.space in
    omega (arith, changes, room.changes, c.requires)

pub returns-then-changes-effects : goal.returns-then-changes-effects
returns-then-changes-effects c =
    let k = c.self.inside in
    let doc = document_of k.doc.value in
    let h : History = reverse k.history.items in
    let rows : c.len.result + c.inserts.result ≡ rows_used doc (published doc h) =
    omega (arith, c.len.ensures, ap (λ d. length d.init) c.deref.ensures, c.inserts.ensures, c.self.invariant.fields.ops.inserts) in
    let changes : c.changes-changes.result ≡ changes_used (published doc h) = c.changes-changes.ensures ∙ c.self.invariant.fields.ops.changes in
    let fit : c.len.result + c.inserts.result + inserts c.args.effects.now ≤ doc.rows =
    omega (arith, c.if-rows-inserts_of.false, c.inserts_of.ensures, ap (λ d. d.rows) c.deref-2.ensures) in
    let more : doc.changes < c.changes-changes.result + length c.args.effects.now =
    omega (arith, c.if-changes-effects.true, ap (λ d. d.changes) c.deref-3.ensures) in
    lacks_changes doc (published doc h) c.args.effects.now (c.len.result + c.inserts.result) c.changes-changes.result rows changes fit more
    ∙ ap (λ m. parts (lack_of (doc_of m) (published (doc_of m) m.history) c.args.effects.now)) c.self.view_is

pub returns : goal.returns
returns c =
    let k = c.self.inside in
    let doc = document_of k.doc.value in
    let h : History = reverse k.history.items in
    let rows : c.len.result + c.inserts.result ≡ rows_used doc (published doc h) =
    omega (arith, c.len.ensures, ap (λ d. length d.init) c.deref.ensures, c.inserts.ensures, c.self.invariant.fields.ops.inserts) in
    let changes : c.changes-changes.result ≡ changes_used (published doc h) = c.changes-changes.ensures ∙ c.self.invariant.fields.ops.changes in
    let fit : c.len.result + c.inserts.result + inserts c.args.effects.now ≤ doc.rows =
    omega (arith, c.if-rows-inserts_of.false, c.inserts_of.ensures, ap (λ d. d.rows) c.deref-2.ensures) in
    let others : c.changes-changes.result + length c.args.effects.now ≤ doc.changes =
    omega (arith, c.if-changes-effects.false, ap (λ d. d.changes) c.deref-3.ensures) in
    lacks_nothing doc (published doc h) c.args.effects.now (c.len.result + c.inserts.result) c.changes-changes.result rows changes fit others
    ∙ ap (λ m. parts (lack_of (doc_of m) (published (doc_of m) m.history) c.args.effects.now)) c.self.view_is
