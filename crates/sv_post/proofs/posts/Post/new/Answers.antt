use Rattle.std.proofs.Common.{◌+◌, ◌∷◌, [], None, Some, arith, set, subst, sym}
use Rattle.sv_post.proofs.SightLaws.{IsMaking, making_more, making_none}
use Rattle.sv_post.proofs.posts.Post.new.Goals as goal

pub loop-place-init : goal.loop-place-init
loop-place-init c = (subst (λ post. IsMaking 0 post (None ∷ None ∷ None ∷ None ∷ None ∷ None ∷ None ∷ None ∷ [])) (sym c.new-mailboxes.ensures.items) making_none, c.requires.1)

pub loop-place-preserved : goal.loop-place-preserved
loop-place-preserved c =
    let inv = c.loop-place.invariant in
    let less = c.loop-place-test.true in (
      subst (λ post. IsMaking (c.loop-place.place + 1) post (set c.loop-place.lanes c.loop-place.place (Some c.in_ok-mailbox.lane))) (sym c.in_ok-push.ensures.items)
          (making_more _ _ _ c.in_ok-mailbox.mailbox c.in_ok-mailbox.lane (omega (arith, less, inv.1)) c.in_ok-mailbox.ensures inv.0),
      inv.1,
    )
