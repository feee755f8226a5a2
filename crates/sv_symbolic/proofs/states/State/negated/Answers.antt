use Rattle.std.proofs.Common.{rules}
use Rattle.sv_linear.specs.Codes.{form_of}
use Rattle.sv_symbolic.proofs.ToldLaws.{held_minus}
use Rattle.sv_symbolic.proofs.states.State.negated.Goals as goal

pub returns-clause-told : goal.returns-clause-told
returns-clause-told c = held_minus _ _ c.sub-made.result (form_of c.number.result) (form_of c.linear.result) _ _ c.in_ok-form.ensures.told c.sub-made.ensures.difference c.sub-made.ensures.wide (search rules) (search rules)
