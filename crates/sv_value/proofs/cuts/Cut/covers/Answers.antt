use Rattle.std.proofs.Common.{rules, suc, refl, ◌<◌, ◌≤◌, get_or, subst, arith}
use Rattle.sv_value.proofs.Below.{Below}
use Rattle.sv_value.proofs.CoverLaws.{below_all, below_more}
use Rattle.sv_value.proofs.cuts.Cut.covers.Goals as goal

pub returns-then-self-other : goal.returns-then-self-other
returns-then-self-other c = (λ f. absurd cc, λ cover. let a : c.args.other.now.reds ≤ c.args.self.now.reds = cover 0 in let b = c.if-self-other.true in absurd (omega (arith, a, b)))

pub loop-place-init : goal.loop-place-init
loop-place-init c = record { long = search rules; below = λ k lt. absurd (omega (arith, lt)) }

pub returns-then-self-place : goal.returns-then-self-place
returns-then-self-place c = (
  λ f. absurd cc,
  λ cover.
      let a : get_or c.args.other.now.blue c.loop-place.place 0 ≤ get_or c.args.self.now.blue c.loop-place.place 0 = cover (suc c.loop-place.place) in
      let b : get_or c.args.self.now.blue c.loop-place.place 0 < get_or c.args.other.now.blue c.loop-place.place 0 = c.if-self-place.true in
      absurd (omega (arith, a, b)),
)

pub loop-place-preserved : goal.loop-place-preserved
loop-place-preserved c = record { long = c.loop-place.invariant.long; below = below_more c.args.other.now.blue c.args.self.now.blue c.loop-place.place c.loop-place.invariant.below c.if-self-place.false }

pub returns : goal.returns
returns c = (λ _. below_all c.args.self.now c.args.other.now c.loop-place.invariant.long c.if-self-other.false (subst (λ n. Below c.args.other.now.blue c.args.self.now.blue n) (omega (arith, c.loop-place.auto.place-end, c.loop-place-test.false)) c.loop-place.invariant.below), λ _. refl)
