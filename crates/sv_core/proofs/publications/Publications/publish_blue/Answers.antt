use Rattle.std.proofs.Common.{◌≡◌, ◌+◌, ◌-◌, ◌++◌, [], ◌∷◌, length, set, get_or, slice_get, Some, sym, ap, ◌∙◌, arith}
use Rattle.std.specs.Vec.{vec_capacity}
use Rattle.std.proofs.lemmas.List.{length_push}
use Rattle.sv_effect.specs.Takes.{inserts}
use Rattle.sv_value.specs.declared.packets.Packet.TheVariants.{Blue}
use Rattle.sv_core.proofs.PublicationLaws.{IsListOf, list_of, blues_in, blues_push, space_blue, blue_in}
use Rattle.sv_core.proofs.publications.Publications.publish_blue.Goals as goal

pub invariant_of-self : goal.invariant_of-self
invariant_of-self c =
    let k = c.self.inside in
    let list = c.index_mut.result.now in
    let l : IsListOf c.args.self.now k.blues.values k.lists.items c.args.site list =
    list_of c.args.self.now k.blues.values k.lists.items c.args.site c.number.result list (ap (λ v. v.blues) (sym c.self.view_is)) c.number.ensures.value
    c.number.ensures.from c.number.ensures.to c.self.invariant.eight c.index_mut.ensures.value in
    let at : slice_get k.lists.items (c.number.result - 1) ≡ Some list = ap (λ n. slice_get k.lists.items (n - 1)) c.number.ensures.value ∙ l.at in
    space_blue k.blues c.place-slot.new.self k.lists.items k.reds (vec_capacity k.order) (vec_capacity c.push_reserved.new.self) (length k.order.items)
    (length c.push_reserved.new.self.items)
    k.room (c.number.result - 1) c.args.op list c.push_reserved-2.new.self c.place-slot.result c.self.invariant
    (omega (arith, c.requires.room, ap (λ v. v.room) c.self.view_is)) at c.place-slot.ensures.values c.place-slot.ensures.spare c.place-slot.ensures.slot
    c.push_reserved-2.ensures.items c.push_reserved-2.ensures.capacity c.push_reserved.ensures.capacity
    (ap length c.push_reserved.ensures.items ∙ length_push k.order.items (Blue c.args.site c.len-seq.result))

pub returns-clause-op : goal.returns-clause-op
returns-clause-op c =
    let k = c.self.inside in
    let list = c.index_mut.result.now in
    let old = c.args.self.now in
    let l : IsListOf old k.blues.values k.lists.items c.args.site list =
    list_of old k.blues.values k.lists.items c.args.site c.number.result list (ap (λ v. v.blues) (sym c.self.view_is)) c.number.ensures.value
    c.number.ensures.from c.number.ensures.to c.self.invariant.eight c.index_mut.ensures.value in
    let read = c.index.result.now in
    let counted : IsListOf old k.blues.values k.lists.items c.args.site read =
    list_of old k.blues.values k.lists.items c.args.site c.number.result read (ap (λ v. v.blues) (sym c.self.view_is)) c.number.ensures.value
    c.number.ensures.from c.number.ensures.to c.self.invariant.eight c.index.ensures in
    let site_is : c.number.result - 1 ≡ c.args.site - 1 = ap (λ n. n - 1) c.number.ensures.value in
    let values : c.place-slot.new.self.values ≡ k.blues.values ++ c.args.op ∷ [] = c.place-slot.ensures.values in
    let blues : blues_in c.place-slot.new.self.values (set k.lists.items (c.number.result - 1) c.push_reserved-2.new.self)
    ≡ set old.blues (c.args.site - 1) (get_or old.blues (c.args.site - 1) [] ++ c.args.op ∷ []) =
    (λ i. blues_in (values i) (set k.lists.items (site_is i) c.push_reserved-2.new.self))
    ∙ blues_push k.blues.values c.args.op k.lists.items (c.args.site - 1) list c.push_reserved-2.new.self c.place-slot.result c.self.invariant.given l.at
    c.push_reserved-2.ensures.items c.place-slot.ensures.slot
    ∙ ap (λ v. set v.blues (c.args.site - 1) (get_or v.blues (c.args.site - 1) [] ++ c.args.op ∷ [])) c.self.view_is in
    let seq : c.len-seq.result ≡ length (get_or old.blues (c.args.site - 1) []) =
    omega (
      arith,
      c.len-seq.ensures,
      read.ok.0,
      counted.long (c.self.invariant.given (c.args.site - 1) read counted.at),
      ap length
          (blue_in old c.args.site counted.one),
    ) in
    let order : c.push_reserved.new.self.items ≡ old.order ++ Blue c.args.site (length (get_or old.blues (c.args.site - 1) [])) ∷ [] =
    c.push_reserved.ensures.items ∙ (λ i. (c.self.view_is i).order ++ Blue c.args.site (seq i) ∷ []) in
    let used : c.inserts_of.result ≡ inserts c.args.op.effects = c.inserts_of.ensures ∙ ap inserts c.items.ensures in
    λ i. record {
      blues = blues i;
      reds = (c.self.view_is i).reds;
      order = order i;
      inserts = (c.self.view_is i).inserts + used i;
      changes = (c.self.view_is i).changes + c.len.ensures i;
      room = (c.self.view_is i).room - 1;
    }
