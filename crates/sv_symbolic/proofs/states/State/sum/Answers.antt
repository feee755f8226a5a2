use Rattle.std.proofs.Common.{rules}
use Rattle.sv_symbolic.proofs.ToldLaws.{held}
use Rattle.sv_symbolic.proofs.states.State.sum.Goals as goal

pub returns-clause-told : goal.returns-clause-told
returns-clause-told c = held _ _ c.add-made.result _ _ _ c.in_ok-form.ensures.told c.add-made.ensures.sum c.add-made.ensures.wide (search rules)
