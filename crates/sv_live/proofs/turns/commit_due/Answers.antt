use Rattle.std.proofs.Common.{rules, sym, ◌∙◌}
use Rattle.sv_hub.proofs.ExtendsLaws.{extends_trans}
use Rattle.sv_core.proofs.PastLaws.{caught_grows}
use Rattle.sv_live.proofs.DueLaws.{due_commits}
use Rattle.sv_live.proofs.turns.commit_due.Goals as goal

pub attempt-requires : goal.attempt-requires
attempt-requires c =
    due_commits c.args.w.now.medium c.args.session c.args.due.now c.args.p c.tell_lawful.ensures.lawful c.tell_waiting.ensures c.requires.session c.requires.duly
    (sym c.site_of.ensures.site ∙ (search rules)) (sym c.moved.ensures ∙ c.if-moved-due.false)

pub returns-in-Short-clause-grows : goal.returns-in-Short-clause-grows
returns-in-Short-clause-grows c =
    extends_trans (caught_grows c.attempt.new.w.medium.history c.catch_up.new.self.medium.history c.args.due.now.site c.catch_up.result c.catch_up.ensures.caught) c.attempt.ensures.grows
