use Rattle.std.proofs.Common.{subst}
use Rattle.sv_app.specs.Schema.{schema_of}
use Rattle.sv_effect.specs.Follows.{Follows}
use Rattle.sv_check.specs.Verdicts.{AllSay}
use Rattle.sv_check.proofs.VerdictLaws.{judged}
use Rattle.sv_check.proofs.after.check_after.Goals as goal

pub returns-clause-judged : goal.returns-clause-judged
returns-clause-judged g c =
    judged _ _ _ _ _ _ (schema_of c.args.app.now.tables.items) c.args.effects.now c.in_ok-left.left.items c.in_ok-verdict.verdict c.requires.accepted c.requires.fits c.in_ok-left.ensures.followed
    (subst (λ l. Follows (g.R.Rows.face c.rows_after.new.rows) (g.R.Rows.face c.first_broken.new.rows) (g.R.Rows.noted c.rows_after.new.rows) (g.R.Rows.noted c.first_broken.new.rows)
    (AllSay (schema_of c.args.app.now.tables.items) l c.in_ok-verdict.verdict)) c.deref.ensures.value c.in_ok-verdict.ensures.followed)
