use Rattle.std.proofs.Common.{rules, refl}
use Rattle.sv_apply_trials.proofs.MadeLaws.{can_apply, room_for_all}
use Rattle.sv_apply_trials.proofs.operations.operation.Goals as goal

pub returns-clause-can : goal.returns-clause-can
returns-clause-can c = can_apply c.args.trial.now.app c.args.trial.now.init c.args.trial.now.request _ c.in_ok-effects.field-0 _ c.requires.whole c.in_ok-effects.ensures.request c.requires.rows
    c.in_ok-effects.ensures.made refl refl refl (search rules) (search rules)

pub returns-clause-room : goal.returns-clause-room
returns-clause-room c = room_for_all _ _ _ (returns-clause-can c)
