use Rattle.std.proofs.Common.{rules}
use Rattle.sv_symbolic.proofs.ToldLaws.{held}
use Rattle.sv_symbolic.proofs.states.State.difference.Goals as goal

pub returns-clause-told : goal.returns-clause-told
returns-clause-told c = held _ _ c.sub-made.result _ _ _ c.in_ok-form.ensures.told c.sub-made.ensures.difference c.sub-made.ensures.wide (search rules)
