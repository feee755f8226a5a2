use Rattle.std.proofs.Common.{◌∙◌}
use Rattle.sv_live.proofs.DueLaws.{call_read, none_left, sending_read}
use Rattle.sv_live.proofs.dues.next_of.Goals as goal

pub returns-then-place-items : goal.returns-then-place-items
returns-then-place-items c =
    none_left c.args.w.now.medium.doc c.deref.result.now c.args.w.now.medium.history c.args.session c.answered-index.result c.moved-moved.result c.items_of-items.result.now
    c.tell_lawful.ensures.legal c.requires c.answered-index.ensures c.moved-moved.ensures c.items_of-items.ensures (c.deref.ensures ∙ c.doc-doc.ensures.same) c.if-place-items.true

pub returns-in-Go : goal.returns-in-Go
returns-in-Go c =
    sending_read c.args.w.now.medium.doc c.deref.result.now c.args.w.now.medium.history c.args.session c.answered-index.result c.moved-moved.result c.in-Go.site c.items_of-items.result.now
    c.index-items-place.result c.answered-index.ensures c.moved-moved.ensures c.items_of-items.ensures (c.deref.ensures ∙ c.doc-doc.ensures.same) c.if-place-items.false c.index-items-place.is c.in-Go.is

pub returns-in_ok-clone-in-Call : goal.returns-in_ok-clone-in-Call
returns-in_ok-clone-in-Call c = record {
  same_doc = c.in_ok-clone-in-Call.ensures.cases ∙ c.doc-doc.ensures.same;
  sound = c.tell_sound.ensures;
  there = c.site_of-site.ensures.there;
  request = c.in-Call.field-0;
  call = call_read c.args.w.now.medium.doc c.deref.result.now c.args.w.now.medium.history c.args.session c.answered-index.result c.moved-moved.result c.in-Call.field-0 c.items_of-items.result.now
      c.index-items-place.result c.tell_sound.ensures c.tell_lawful.ensures.legal c.requires c.answered-index.ensures c.moved-moved.ensures c.items_of-items.ensures
      (c.deref.ensures ∙ c.doc-doc.ensures.same) c.if-place-items.false c.index-items-place.is c.in-Call.is;
}
