use Rattle.std.proofs.Common.{rules, ◌<◌, ◌≤◌, get_or, arith}
use Rattle.sv_value.proofs.CoverLaws.{below_more}
use Rattle.sv_causal.proofs.readiness.first_missing.Goals as goal

pub loop-place-init : goal.loop-place-init
loop-place-init c = record { long = search rules; below = λ k lt. absurd (omega (arith, lt)) }

pub loop-place-preserved : goal.loop-place-preserved
loop-place-preserved c =
    record { long = c.loop-place.invariant.long; below = below_more c.args.deps.now.blue c.args.cut.now.blue c.loop-place.place c.loop-place.invariant.below c.if-cut-place.false }
