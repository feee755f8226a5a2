use Rattle.std.proofs.Common.{◌≡◌, ◌≤◌, ◌*◌}
use Rattle.sv_post.specs.Sight.{Belongs, IsLater, seen_of}
use Rattle.sv_post.proofs.posts.Post.send.Given as goal

abbrev pub invariant-loop-place : goal.invariant-loop-place
invariant-loop-place g l = Belongs l.fn.self l.pass × IsLater l.fn.pass l.pass × (seen_of l.pass l.fn.from ≡ seen_of l.fn.pass l.fn.from) × (l.count ≤ 2 * l.place)
