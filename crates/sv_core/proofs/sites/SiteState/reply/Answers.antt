use Rattle.std.proofs.Common.{None, refl}
use Rattle.sv_core.proofs.GiveLaws.{next_nothing, quiet_left}
use Rattle.sv_core.proofs.sites.SiteState.reply.Goals as goal

pub reply-requires-clause-next : goal.reply-requires-clause-next
reply-requires-clause-next c = next_nothing c.args.m.now c.args.proposal c.requires.can c.requires.nothing

pub returns-clause-added : goal.returns-clause-added
returns-clause-added c = record {
  reply = c.args.proposal.p.reply;
  label = c.args.proposal.p.label;
  packet = None;
  next = next_nothing c.args.m.now c.args.proposal c.requires.can c.requires.nothing;
  added = c.reply.ensures;
  stands = refl;
}

pub returns-clause-left : goal.returns-clause-left
returns-clause-left c =
    let p = c.args.proposal.p in
    quiet_left c.args.m.now c.reply.new.self c.args.self.now p.session p.index p.request p.site c.args.proposal.at p.reply p.label c.requires.stands c.requires.site
    (next_nothing c.args.m.now c.args.proposal c.requires.can c.requires.nothing) c.reply.ensures
