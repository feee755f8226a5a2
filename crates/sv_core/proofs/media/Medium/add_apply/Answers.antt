use Rattle.std.proofs.Common.{◌∷◌, reverse, sym, ap, subst, ◌∙◌, arith}
use Rattle.std.specs.Vec.{vec_capacity}
use Rattle.std.proofs.lemmas.List.{length-reverse}
use Rattle.sv_core.specs.declared.entries.Entry.TheVariants.{Apply}
use Rattle.sv_core.specs.Document.{document_of}
use Rattle.sv_core.specs.History.{History}
use Rattle.sv_core.specs.Legal.{IsApply}
use Rattle.sv_core.specs.Mediums.{doc_of}
use Rattle.sv_core.specs.MediumState.{Keeps}
use Rattle.sv_core.proofs.KeepLaws.{HasRoom, room_of, reverse_push, keeps_applied}
use Rattle.sv_core.proofs.media.Medium.add_apply.Goals as goal

pub push_reserved-requires : goal.push_reserved-requires
push_reserved-requires c =
    let doc = document_of c.self.inside.doc.value in
    let h : History = reverse c.self.inside.history.items in
    let k = c.self.invariant.fields in
    let apply : IsApply doc h c.args.site c.args.packet = subst (λ m. IsApply (doc_of m) m.history c.args.site c.args.packet) (sym c.self.view_is) c.requires in
    let room : HasRoom doc (Apply c.args.site c.args.packet ∷ h) (vec_capacity c.self.inside.history) 0 =
    room_of doc (Apply c.args.site c.args.packet ∷ h) (vec_capacity c.self.inside.history) 0
    (record { sound = k.lawful.sound; legal = (apply, k.lawful.legal) }) k.space in
    omega (arith, room.space, c.self.inside.history.ok.0, length-reverse c.self.inside.history.items)

pub invariant_of-self : goal.invariant_of-self
invariant_of-self c =
    let doc = document_of c.self.inside.doc.value in
    let h : History = reverse c.self.inside.history.items in
    let k = c.self.inside in
    let apply : IsApply doc h c.args.site c.args.packet = subst (λ m. IsApply (doc_of m) m.history c.args.site c.args.packet) (sym c.self.view_is) c.requires in
    let kept : Keeps doc (Apply c.args.site c.args.packet ∷ h) k.published k.sessions.items (vec_capacity k.history) =
    keeps_applied doc h k.published k.sessions.items (vec_capacity k.history) c.args.site c.args.packet c.self.invariant.fields apply in
    record {
      sound = c.self.invariant.sound;
      fields = subst (λ g. Keeps doc g k.published k.sessions.items (vec_capacity c.push_reserved.new.self))
          (sym (ap reverse c.push_reserved.ensures.items ∙ reverse_push k.history.items (Apply c.args.site c.args.packet)))
          (subst (λ n. Keeps doc (Apply c.args.site c.args.packet ∷ h) k.published k.sessions.items n) (sym c.push_reserved.ensures.capacity) kept);
    }
