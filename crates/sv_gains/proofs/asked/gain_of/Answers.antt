use Rattle.std.proofs.Common.{ℕ, subst, sym}
use Rattle.sv_bounds.specs.Answers.{IsWidest}
use Rattle.sv_gains.specs.Asked.{IsRight}
use Rattle.sv_gains.proofs.GainLaws.{widest_right}
use Rattle.sv_gains.proofs.asked.gain_of.Goals as goal

pub returns-clause-right : goal.returns-clause-right
returns-clause-right c =
    subst (λ most. IsRight c.args.system.now (record { hi = c.args.hi; lo = c.args.lo; most = most })) (sym c.most_of.ensures)
    (widest_right c.args.system.now c.args.hi c.args.lo c.in_ok-widest.widest c.requires.system
    (subst (λ (p : ℕ × ℕ). IsWidest c.args.system.now p.0 p.1 c.in_ok-widest.widest) (λ i. (c.variable.ensures i, c.variable-2.ensures i)) c.in_ok-widest.ensures.widest))
