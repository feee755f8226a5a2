use Rattle.std.proofs.Common.{rules, refl}
use Rattle.sv_core.proofs.HoldLaws.{change_of, current_of, unchanged_of}
use Rattle.sv_core.proofs.sites.SiteState.commit.Goals as goal

pub returns-in-Some-first_change-clause-answer : goal.returns-in-Some-first_change-clause-answer
returns-in-Some-first_change-clause-answer c = (
  refl,
  current_of c.args.m.now c.args.self.now c.args.p c.answered-next.result c.pending.result c.seen.result c.first_missing.result c.requires.stands c.requires.site c.answered-next.ensures
      (search rules) c.pending.ensures.index (search rules) c.seen.ensures c.first_missing.ensures (search rules),
  change_of c.args.m.now c.args.self.now c.args.p c.in-Some-first_change.read _ c.requires.stands c.requires.site (search rules),
  refl,
)

pub give-requires-clause-unchanged : goal.give-requires-clause-unchanged
give-requires-clause-unchanged c =
    unchanged_of c.args.m.now c.args.self.now c.args.p c.requires.stands c.requires.site
    (current_of c.args.m.now c.args.self.now c.args.p c.answered-next.result c.pending.result c.seen.result c.first_missing.result c.requires.stands c.requires.site c.answered-next.ensures
    (search rules) c.pending.ensures.index (search rules) c.seen.ensures c.first_missing.ensures (search rules))
    (search rules)
