-- What a pass has seen of one mailbox, when it has seen more of it.
use Rattle.std.proofs.Common.{◌≡◌, ℕ, ◌-◌, List, [], ◌∷◌, set, get_or, Option, Some, None, refl, sym, ap, ◌∙◌}
use Rattle.std.specs.Prelude.{zero, suc}
use Rattle.sv_post.specs.declared.logs.Event.{Event}
use Rattle.sv_post.specs.Sight.{LaneSight, PassSight, seen_in, seen_of, with_lane, with_seen}

same_lane : (lane : Option LaneSight) → with_lane lane (seen_in lane) ≡ lane
same_lane None = refl
same_lane (Some lane) = refl

lane_again : (lane : Option LaneSight) (one other : List Event) → with_lane (with_lane lane one) other ≡ with_lane lane other
lane_again None one other = refl
lane_again (Some lane) one other = refl

same_there : (pass : PassSight) (place : ℕ) → set pass place (with_lane (get_or pass place None) (seen_in (get_or pass place None))) ≡ pass
same_there [] place = refl
same_there (lane ∷ pass) zero = ap (λ l. l ∷ pass) (same_lane lane)
same_there (lane ∷ pass) (suc place) = ap (λ p. lane ∷ p) (same_there pass place)

again_there : (pass : PassSight) (place : ℕ) (one other : List Event)
    → set (set pass place (with_lane (get_or pass place None) one)) place (with_lane (get_or (set pass place (with_lane (get_or pass place None) one)) place None) other)
    ≡ set pass place (with_lane (get_or pass place None) other)
again_there [] place one other = refl
again_there (lane ∷ pass) zero one other = ap (λ l. l ∷ pass) (lane_again lane one other)
again_there (lane ∷ pass) (suc place) one other = ap (λ p. lane ∷ p) (again_there pass place one other)

-- what was seen of other mailboxes stands
pub record IsSameBeside (site : ℕ) (before after : PassSight) : Type 0 where
  pub is : after ≡ with_seen before site (seen_of after site)

pub beside_same : (pass : PassSight) (site : ℕ) → IsSameBeside site pass pass
beside_same pass site = record { is = sym (same_there pass (site - 1)) }

pub beside_next : (start before after : PassSight) (site : ℕ) → IsSameBeside site start before → after ≡ with_seen before site (seen_of after site) → IsSameBeside site start after
beside_next start before after site same is = record {
  is = is ∙ ap (λ p. with_seen p site (seen_of after site)) same.is ∙ again_there start (site - 1) (seen_of before site) (seen_of after site);
}

pub beside_is : (before after : PassSight) (site : ℕ) → IsSameBeside site before after → after ≡ with_seen before site (seen_of after site)
beside_is before after site same = same.is

pub ruleset mailing = (beside_same, beside_next, beside_is)
