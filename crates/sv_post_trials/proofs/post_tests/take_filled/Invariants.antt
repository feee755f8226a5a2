use Rattle.std.proofs.Common.{◌≡◌, length}
use Rattle.sv_post.specs.Sight.{Belongs}
use Rattle.sv_post_trials.proofs.post_tests.take_filled.Given as goal

abbrev pub invariant-loop-round : goal.invariant-loop-round
invariant-loop-round g l = Belongs l.post l.pass × (length l.post ≡ 2)
