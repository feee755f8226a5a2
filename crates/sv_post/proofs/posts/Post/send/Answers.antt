use Rattle.std.proofs.Common.{◌∙◌, arith}
use Rattle.sv_post.proofs.SightLaws.{later_trans}
use Rattle.sv_post.proofs.posts.Post.send.Goals as goal

pub loop-place-preserved : goal.loop-place-preserved
loop-place-preserved g c =
    let inv = c.loop-place.invariant in
    let most = c.offer-count.ensures.most in
    (c.offer-count.ensures.own, later_trans inv.1 c.offer-count.ensures.seen, c.offer-count.ensures.from ∙ inv.2, omega (arith, inv.3))
