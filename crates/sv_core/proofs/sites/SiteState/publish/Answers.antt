use Rattle.std.proofs.Common.{◌+◌, Some, refl, ap, ◌∙◌, arith}
use Rattle.sv_effect.specs.declared.ops.Op.{Op}
use Rattle.sv_core.specs.declared.entries.Entry.TheVariants.{Answer}
use Rattle.sv_core.specs.Mediums.{with_entry}
use Rattle.sv_core.proofs.GiveLaws.{given_can, given_left, op_in_code, time_fits, publish_next, publish_given}
use Rattle.sv_core.proofs.sites.SiteState.publish.Goals as goal

pub overflow_add-op : goal.overflow_add-op
overflow_add-op c = omega (arith, time_fits c.args.m.now c.args.self.now c.requires.stands)

pub bring-requires : goal.bring-requires
bring-requires c =
    let p = c.args.proposal.p in
    let op : Op = record { time = c.args.self.now.latest + 1; site = p.site; deps = c.args.proposal.deps; effects = p.effects; needs = p.needs } in
    given_can c.args.m.now c.args.self.now p.session p.index p.request c.args.proposal.at p.reply p.label c.args.packet.now op c.requires.stands
    (publish_given c.args.m.now c.args.self.now c.args.proposal c.args.packet.now c.requires.stands c.requires.short c.requires.can c.requires.site c.requires.due c.requires.room)

pub publish-requires-clause-next : goal.publish-requires-clause-next
publish-requires-clause-next c = publish_next c.args.m.now c.args.self.now c.args.proposal c.args.packet.now c.requires.can c.requires.site c.requires.due c.requires.room

pub publish-requires-clause-news : goal.publish-requires-clause-news
publish-requires-clause-news c = (refl, refl, op_in_code c.args.m.now c.args.self.now c.args.proposal c.args.packet.now c.requires.stands c.requires.can c.requires.site c.requires.due)

pub returns-clause-added : goal.returns-clause-added
returns-clause-added c = record {
  reply = c.args.proposal.p.reply;
  label = c.args.proposal.p.label;
  packet = Some c.args.packet.now;
  next = publish_next c.args.m.now c.args.self.now c.args.proposal c.args.packet.now c.requires.can c.requires.site c.requires.due c.requires.room;
  added = c.publish.ensures;
  stands = refl;
}

pub returns-clause-left : goal.returns-clause-left
returns-clause-left c =
    let p = c.args.proposal.p in
    let op : Op = record { time = c.args.self.now.latest + 1; site = p.site; deps = c.args.proposal.deps; effects = p.effects; needs = p.needs } in
    given_left c.args.m.now c.publish.new.self c.args.self.now c.bring.new.self p.session p.index p.request c.args.proposal.at p.reply p.label c.args.packet.now op c.requires.stands
    (publish_given c.args.m.now c.args.self.now c.args.proposal c.args.packet.now c.requires.stands c.requires.short c.requires.can c.requires.site c.requires.due c.requires.room)
    c.bring.ensures
    (c.publish.ensures ∙ ap (λ site. with_entry c.args.m.now (Answer p.session p.index p.request site c.args.proposal.at p.reply p.label (Some c.args.packet.now))) c.requires.site)
