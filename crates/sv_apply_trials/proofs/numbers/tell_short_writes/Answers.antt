use Rattle.std.proofs.Common.{sym, subst, arith}
use Rattle.std.proofs.lemmas.List.{take_all}
use Rattle.std.proofs.lemmas.List.Elements.{All-more, All-same}
use Rattle.sv_effect.specs.TablesOfCut.{delta_of}
use Rattle.sv_core.specs.Counts.{IsShort}
use Rattle.sv_apply_trials.proofs.numbers.tell_short_writes.Goals as goal

pub loop-write-preserved : goal.loop-write-preserved
loop-write-preserved c =
    All-more (λ w. IsShort (delta_of w.1)) c.args.writes.now c.loop-write.write-index c.loop-write-item.result (omega (arith, c.loop-write-test.true))
    c.loop-write.invariant
    (subst (λ w. IsShort (delta_of w.1)) c.loop-write-item.is c.tell_short_write.ensures)

pub returns : goal.returns
returns c = let e = c.loop-write-test.false in All-same (λ w. IsShort (delta_of w.1)) c.args.writes.now _
    (sym (take_all c.loop-write.write-index c.args.writes.now (omega (arith, e)))) c.loop-write.invariant
