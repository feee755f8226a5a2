use Rattle.sv_check.proofs.WalkLaws.{were_walked}
use Rattle.sv_check.proofs.keys.candidates.Goals as goal

pub returns-in_ok-add_left-clause-followed : goal.returns-in_ok-add_left-clause-followed
returns-in_ok-add_left-clause-followed g c =
    were_walked _ _ _ _ c.args.walk c.args.left.now c.args.table c.in_ok-before.before c.into_vec-keys.result.items c.add_left.new.keys.items c.in_ok-before.ensures.followed c.into_vec-keys.ensures c.in_ok-add_left.ensures
