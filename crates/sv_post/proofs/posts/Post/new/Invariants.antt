use Rattle.std.proofs.Common.{◌≤◌}
use Rattle.sv_post.proofs.SightLaws.{IsMaking}
use Rattle.sv_post.proofs.posts.Post.new.Given as goal

abbrev pub invariant-loop-place : goal.invariant-loop-place
invariant-loop-place l = IsMaking l.place l.mailboxes.items l.lanes × (l.sites ≤ 8)
