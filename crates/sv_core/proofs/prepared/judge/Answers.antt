use Rattle.std.proofs.Common.{rules}
use Rattle.sv_core.proofs.PreparedLaws as prepared
use Rattle.sv_core.proofs.prepared.judge.Goals as goal

pub returns-clause-followed : goal.returns-clause-followed
returns-clause-followed g c = prepared.run_answered c.args.doc.now c.args.first _ c.args.request.now _ c.in_ok-ran.ran c.in_ok-answer.answer _ _ _ _ _ _
    (search rules) (search rules) c.in_ok-ran.ensures.followed c.in_ok-answer.ensures.followed
