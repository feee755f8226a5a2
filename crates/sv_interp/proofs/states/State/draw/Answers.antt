use Rattle.std.proofs.Common.{◌∙◌, ap}
use Rattle.std.specs.FinMap.{empty}
use Rattle.sv_interp.proofs.states.State.draw.Goals as goal

pub returns-clause-number : goal.returns-clause-number
returns-clause-number c = ap (λ st. st.scope.progress.number) (c.in_ok-set.ensures empty) ∙ ap (λ p. p.number) c.in_ok-put.ensures
