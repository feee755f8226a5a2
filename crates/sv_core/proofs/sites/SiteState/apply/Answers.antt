use Rattle.std.proofs.Common.{ap, ◌∙◌}
use Rattle.sv_core.specs.declared.entries.Entry.TheVariants.{Apply}
use Rattle.sv_core.specs.Mediums.{with_entry}
use Rattle.sv_core.proofs.StandLaws.{can_apply, applied_stands}
use Rattle.sv_core.proofs.sites.SiteState.apply.Goals as goal

pub bring-requires : goal.bring-requires
bring-requires c =
    can_apply c.args.m.now c.args.packet.now c.in-Some.op.now c.args.self.now c.in-Some.ensures.lawful c.in-Some.ensures.short c.requires.stands c.requires.next c.in-Some.ensures.op

pub returns-clause-left : goal.returns-clause-left
returns-clause-left c =
    applied_stands c.args.m.now c.add_apply.new.self c.args.packet.now c.in-Some.op.now c.args.self.now c.bring.new.self c.in-Some.ensures.lawful c.in-Some.ensures.short c.requires.stands
    c.requires.next c.in-Some.ensures.op c.bring.ensures (c.add_apply.ensures ∙ ap (λ s. with_entry c.args.m.now (Apply s c.args.packet.now)) c.bring.ensures.site)
