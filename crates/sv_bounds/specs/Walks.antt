-- Walks down the rounds, by the rows that lowered the variables.
use Rattle.std.specs.Prelude.{◌≡◌, ℕ, ◌+◌, ◌-◌, ◌*◌, ◌^◌, ◌<◌, ◌≤◌, Bool, true, false, List, length, drop, get_or, count_by, Option, Some, None, ◌+ℤ◌, ◌<ℤ◌}
use Rattle.sv_bounds.specs.declared.systems.Diff.{Diff}
use Rattle.sv_bounds.specs.declared.rounds.Cell.{Cell}
use Rattle.sv_bounds.specs.Differences.{Within, IsChain, sum_of}
use Rattle.sv_bounds.specs.Rounds.{value, Fell, round_at}

abbrev pub is_marked : Option ℕ → Bool
is_marked None = false
is_marked (Some p) = true

-- the walk was at z when the chain had p rows, and is now at x
pub record IsMark (rows : List Diff) (rounds : List (List Cell)) (r : ℕ) (chain : List ℕ) (x z p : ℕ) : Type 0 where
  pub behind : p ≤ length chain
  pub leads : IsChain rows z (drop p chain) x
  pub less : (k : ℕ) → k ≤ r → (sum_of rows (drop p chain) +ℤ value (round_at rounds r) x) <ℤ value (round_at rounds k) z

-- a walk to round r, with a mark at each variable that it passed
pub record IsWalk (rows : List Diff) (vars : ℕ) (rounds : List (List Cell)) (r : ℕ) (seen : List (Option ℕ)) (chain : List ℕ) (x : ℕ) : Type 0 where
  pub inside : x < vars
  pub long : length seen ≡ vars
  pub count : count_by is_marked seen ≡ length chain
  pub down : length chain + r ≡ vars
  pub fell : (k : ℕ) → k + 1 ≡ r → Fell (round_at rounds k) (round_at rounds r) x
  pub marks : (z p : ℕ) → get_or seen z None ≡ Some p → IsMark rows rounds r chain x z p

-- the rows that lead from x in the round at the top down to z in round r
pub record IsDescent (rows : List Diff) (vars : ℕ) (rounds : List (List Cell)) (top x r : ℕ) (chain : List ℕ) (z : ℕ) : Type 0 where
  pub inside : z < vars
  pub below : r ≤ top
  pub leads : IsChain rows x chain z
  pub sum : (sum_of rows chain +ℤ value (round_at rounds r) z) ≡ value (round_at rounds top) x
  pub near : Within ((top - r) * 2 ^ 70) (sum_of rows chain)

-- the rows lead from x in the round at the top down to a variable of the first round
pub record Descends (rows : List Diff) (vars : ℕ) (rounds : List (List Cell)) (top x : ℕ) (chain : List ℕ) : Type 0 where
  pub end : ℕ
  pub descent : IsDescent rows vars rounds top x 0 chain end
