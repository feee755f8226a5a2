use Rattle.std.proofs.Common.{rules, arith, ap, length}
use Rattle.sv_core.proofs.GiveLaws.{few_held, packet_changes}
use Rattle.sv_core.proofs.sites.SiteState.answer.Goals as goal

pub lack-requires : goal.lack-requires
lack-requires c =
    omega (
      arith,
      ap length c.items.ensures,
      few_held c.args.m.now c.args.proposal c.requires.stands.lawful c.requires.can
          (packet_changes c.args.m.now c.args.self.now.site c.args.proposal.p.label c.in-Some.packet (search rules)),
    )
