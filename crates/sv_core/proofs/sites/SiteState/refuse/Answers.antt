use Rattle.std.proofs.Common.{None, refl}
use Rattle.sv_threat.specs.declared.label.Label.TheVariants.{Nothing}
use Rattle.sv_core.specs.declared.entries.Reply.TheVariants.{Full}
use Rattle.sv_core.proofs.GiveLaws.{next_full, quiet_left}
use Rattle.sv_core.proofs.sites.SiteState.refuse.Goals as goal

pub reply-requires-clause-next : goal.reply-requires-clause-next
reply-requires-clause-next c = next_full c.args.m.now c.args.proposal c.args.which c.args.used c.requires.can c.requires.changes c.requires.lack

pub returns-clause-added : goal.returns-clause-added
returns-clause-added c = record {
  reply = Full c.args.which c.args.used;
  label = Nothing;
  packet = None;
  next = next_full c.args.m.now c.args.proposal c.args.which c.args.used c.requires.can c.requires.changes c.requires.lack;
  added = c.reply.ensures;
  stands = refl;
}

pub returns-clause-left : goal.returns-clause-left
returns-clause-left c =
    let p = c.args.proposal.p in
    quiet_left c.args.m.now c.reply.new.self c.args.self.now p.session p.index p.request p.site c.args.proposal.at (Full c.args.which c.args.used) Nothing c.requires.stands c.requires.site
    (next_full c.args.m.now c.args.proposal c.args.which c.args.used c.requires.can c.requires.changes c.requires.lack) c.reply.ensures
