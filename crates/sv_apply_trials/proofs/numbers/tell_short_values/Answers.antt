use Rattle.std.proofs.Common.{sym, subst, arith}
use Rattle.std.proofs.lemmas.List.{take_all}
use Rattle.std.proofs.lemmas.List.Elements.{All-more, All-same}
use Rattle.sv_effect.specs.TablesOfCut.{number_in}
use Rattle.sv_core.specs.Counts.{IsShort}
use Rattle.sv_apply_trials.proofs.numbers.tell_short_values.Goals as goal

pub loop-value-preserved : goal.loop-value-preserved
loop-value-preserved c =
    All-more (λ v. IsShort (number_in v)) c.args.values.now c.loop-value.value-index c.value-item.result (omega (arith, c.loop-value-test.true))
    c.loop-value.invariant
    (subst (λ v. IsShort (number_in v)) c.value-item.is c.tell_short.ensures)

pub returns : goal.returns
returns c = let e = c.loop-value-test.false in All-same (λ v. IsShort (number_in v)) c.args.values.now _
    (sym (take_all c.loop-value.value-index c.args.values.now (omega (arith, e)))) c.loop-value.invariant
