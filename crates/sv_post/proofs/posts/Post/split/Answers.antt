use Rattle.std.proofs.Common.{◌∷◌, [], None, get_or, length, ap, sym, ◌∙◌}
use Rattle.sv_post.specs.Sight.{PassSight}
use Rattle.sv_post.proofs.SightLaws.{eight}
use Rattle.sv_post.proofs.posts.Post.split.Goals as goal

pub returns : goal.returns
returns c =
    let is = c.pass.view_is in
    let a = c.twin.ensures.same ∙ is in
    let b = c.twin-2.ensures.same ∙ a in
    let d = c.twin-3.ensures.same ∙ b in
    let e = c.twin-4.ensures.same ∙ d in
    let f = c.twin-5.ensures.same ∙ e in
    let h = c.twin-6.ensures.same ∙ f in
    let i = c.twin-7.ensures.same ∙ h in
    let j = c.twin-8.ensures.same ∙ i in record {
      same = (
        j,
        (λ k. (c.twin.ensures.twin ∙ ap (λ (p : PassSight). get_or p 0 None) is) k ∷ (c.twin-2.ensures.twin ∙ ap (λ (p : PassSight). get_or p 1 None) a) k
            ∷ (c.twin-3.ensures.twin ∙ ap (λ (p : PassSight). get_or p 2 None) b) k ∷ (c.twin-4.ensures.twin ∙ ap (λ (p : PassSight). get_or p 3 None) d) k
            ∷ (c.twin-5.ensures.twin ∙ ap (λ (p : PassSight). get_or p 4 None) e) k ∷ (c.twin-6.ensures.twin ∙ ap (λ (p : PassSight). get_or p 5 None) f) k
            ∷ (c.twin-7.ensures.twin ∙ ap (λ (p : PassSight). get_or p 6 None) h) k ∷ (c.twin-8.ensures.twin ∙ ap (λ (p : PassSight). get_or p 7 None) i) k ∷ [])
            ∙ eight c.args.pass None (ap (λ (p : PassSight). length p) (sym is) ∙ c.pass.invariant),
      );
    }
