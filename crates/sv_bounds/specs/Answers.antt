-- What the calls take and answer.
use Rattle.std.specs.Prelude.{◌≡◌, ℕ, ◌≤◌, List, [], ◌∷◌, ◌++◌, length, get_or, All, ℤ, pos, neg_ℤ, ◌-ℤ◌, ◌↔◌}
use Rattle.sv_bounds.specs.declared.systems.Diff.{Diff}
use Rattle.sv_bounds.specs.declared.systems.System.{System}
use Rattle.sv_bounds.specs.declared.systems.Answer.{Answer}
use Rattle.sv_bounds.specs.declared.systems.Answer.TheVariants.{Values, Cycle}
use Rattle.sv_bounds.specs.declared.systems.Widest.{Widest}
use Rattle.sv_bounds.specs.declared.systems.Widest.TheVariants.{Most, Unbounded}
use Rattle.sv_bounds.specs.Differences.{IsRow, Meets, IsSolvable, IsChain, sum_of, IsCycle, IsBound, IsUnbounded}

-- the condition of the calls
pub record IsSystem (s : System) : Type 0 where
  pub some : 1 ≤ s.vars
  pub few : s.vars ≤ 65
  pub many : length s.rows ≤ 4096
  pub rows : All (IsRow s.vars) s.rows

-- the row x - y >= d
abbrev pub above_row : ℕ → ℕ → ℤ → Diff
above_row x y d = record { x = y; y = x; most = neg_ℤ d }

-- the system with one more row, the last
abbrev pub with_row : System → Diff → System
with_row s row = record { vars = s.vars; rows = s.rows ++ row ∷ [] }

-- the values of a list, as an assignment
abbrev pub assigned : List ℤ → ℕ → ℤ
assigned values x = get_or values x (pos 0)

-- a value for each variable, and together they meet the rows
pub record IsSolution (s : System) (values : List ℤ) : Type 0 where
  pub long : length values ≡ s.vars
  pub meets : Meets s.rows (assigned values)

abbrev pub IsAnswer : System → Answer → Type 0
IsAnswer s (Values values) = IsSolution s values
IsAnswer s (Cycle chain) = IsCycle s.rows chain

abbrev pub AreValues : Answer → Type 0
AreValues (Values values) = Unit {0}
AreValues (Cycle chain) = ⊥

-- values come exactly where some assignment meets the rows
abbrev pub IsDecided : System → Answer → Type 0
IsDecided s answer = AreValues answer ↔ IsSolvable s.rows

-- the greatest x - y: no assignment has more, a solution has it, and rows add up to it
pub record IsMost (s : System) (x y : ℕ) (most : ℤ) (values : List ℤ) (chain : List ℕ) : Type 0 where
  pub greatest : IsBound s.rows x y most
  pub solution : IsSolution s values
  pub reached : (assigned values x -ℤ assigned values y) ≡ most
  pub leads : IsChain s.rows x chain y
  pub sum : sum_of s.rows chain ≡ most

abbrev pub IsWidest : System → ℕ → ℕ → Widest → Type 0
IsWidest s x y (Most most values chain) = IsMost s x y most values chain
IsWidest s x y Unbounded = IsUnbounded s.rows x y

-- there is no greatest x - y exactly where, for each number, some assignment has more
abbrev pub IsExact : System → ℕ → ℕ → Widest → Type 0
IsExact s x y widest = (widest ≡ Unbounded) ↔ IsUnbounded s.rows x y
