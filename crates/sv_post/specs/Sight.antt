-- What contracts see of a post and of its passes.
use Rattle.std.specs.Prelude.{◌≡◌, ℕ, ◌-◌, ◌≤◌, List, [], length, Option, Some, None, slice_get, get_or, set}
use Rattle.atomic_table.specs.Seated.{TableId}
use Rattle.sv_hub.specs.Extends.{Extends}
use Rattle.sv_post.specs.declared.logs.Event.{Event}

-- the mailbox that a lane knows, and what was seen of its log
pub record LaneSight : Type 0 where
  pub table : TableId
  pub seen : List Event

-- A post is the list of its mailboxes, site 1 first. A pass has a lane for each of them.
abbrev pub PassSight : Type 0
PassSight = List (Option LaneSight)

abbrev pub IsLaneOf : Option TableId → Option LaneSight → Type 0
IsLaneOf None None = Unit {0}
IsLaneOf (Some table) (Some lane) = lane.table ≡ table
IsLaneOf _ _ = ⊥

-- the post made the pass
pub record Belongs (post : List TableId) (pass : PassSight) : Type 0 where
  pub lanes : (place : ℕ) → IsLaneOf (slice_get post place) (get_or pass place None)

-- one of the sites that the post has a mailbox for
pub record HasSite (post : List TableId) (site : ℕ) : Type 0 where
  pub from : 1 ≤ site
  pub to : site ≤ length post

abbrev pub seen_in : Option LaneSight → List Event
seen_in None = []
seen_in (Some lane) = lane.seen

-- what the pass has seen of the mailbox of a site
abbrev pub seen_of : PassSight → ℕ → List Event
seen_of pass site = seen_in (get_or pass (site - 1) None)

-- it has seen nothing
pub record IsUnseen (pass : PassSight) : Type 0 where
  pub lanes : (site : ℕ) → seen_of pass site ≡ []

abbrev pub with_lane : Option LaneSight → List Event → Option LaneSight
with_lane None seen = None
with_lane (Some lane) seen = Some (record { table = lane.table; seen = seen })

-- the pass, when it has seen this of the mailbox of a site
abbrev pub with_seen : PassSight → ℕ → List Event → PassSight
with_seen pass site seen = set pass (site - 1) (with_lane (get_or pass (site - 1) None) seen)

-- what was seen is seen still
pub record IsLater (before after : PassSight) : Type 0 where
  pub lanes : (site : ℕ) → Extends (seen_of after site) (seen_of before site)
