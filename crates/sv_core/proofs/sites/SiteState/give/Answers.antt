use Rattle.std.proofs.Common.{All, subst, sym}
use Rattle.sv_core.specs.Counts.{AddsShort}
use Rattle.sv_core.specs.Events.{IsRed}
use Rattle.sv_core.proofs.HoldLaws.{can_answer_now, held_now, not_red}
use Rattle.sv_core.proofs.sites.SiteState.give.Goals as goal

pub propose-requires-clause-pending : goal.propose-requires-clause-pending
propose-requires-clause-pending c = record {
  held = held_now c.args.m.now c.args.self.now c.args.p c.place.result c.deps.result c.requires.stands c.requires.site c.requires.prepared c.requires.unchanged c.place.ensures.place c.deps.ensures
      (subst (All AddsShort) c.items.ensures c.tell_short_changes.ensures);
  red = subst IsRed (sym c.in-Red.is) tt;
}

pub answer-place-requires : goal.answer-place-requires
answer-place-requires c = record {
  stands = c.requires.stands;
  site = c.requires.site;
  can = can_answer_now c.args.m.now c.args.self.now c.args.p c.place.result c.deps.result c.requires.stands c.requires.site c.requires.prepared c.requires.unchanged c.place.ensures.place c.deps.ensures
      (subst (All AddsShort) c.items.ensures c.tell_short_changes.ensures) (not_red c.args.p.label c.in-Nothing.is);
}
