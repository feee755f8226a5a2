use Rattle.std.proofs.Common.{◌≡◌, length}
use Rattle.sv_post.specs.Sight.{Belongs}
use Rattle.sv_post_trials.proofs.post_tests.take_many.Given as goal

abbrev pub invariant-loop : goal.invariant-loop
invariant-loop g l = Belongs l.post l.pass × (length l.post ≡ 2)
