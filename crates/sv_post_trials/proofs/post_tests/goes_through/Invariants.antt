use Rattle.std.proofs.Common.{◌≡◌, length}
use Rattle.sv_post.specs.Sight.{Belongs}
use Rattle.sv_post_trials.proofs.post_tests.goes_through.Given as goal

abbrev pub invariant-loop-place : goal.invariant-loop-place
invariant-loop-place g l = Belongs l.post l.pass × (length l.post ≡ 2)

abbrev pub invariant-loop-seq : goal.invariant-loop-seq
invariant-loop-seq g l = Belongs l.post l.pass × (length l.post ≡ 2)
