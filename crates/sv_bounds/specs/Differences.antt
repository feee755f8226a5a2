-- Systems of differences: assignments that meet the rows, rows that lead from one variable to another, and cycles of rows.
use Rattle.std.specs.Prelude.{◌≡◌, ◌≢◌, ℕ, ◌^◌, ◌<◌, List, [], ◌∷◌, length, get_or, All, ℤ, pos, neg_ℤ, ◌+ℤ◌, ◌-ℤ◌, ◌<ℤ◌, ◌≤ℤ◌}
use Rattle.sv_bounds.specs.declared.systems.Diff.{Diff}

-- what stands past the last row
abbrev pub no_row : Diff
no_row = record { x = 0; y = 0; most = pos 0 }

abbrev pub row_at : List Diff → ℕ → Diff
row_at rows i = get_or rows i no_row

-- between -n and n
pub record Within (n : ℕ) (z : ℤ) : Type 0 where
  pub low : neg_ℤ (pos n) ≤ℤ z
  pub high : z ≤ℤ pos n

-- a row over so many variables, its bound in range
pub record IsRow (vars : ℕ) (row : Diff) : Type 0 where
  pub x : row.x < vars
  pub y : row.y < vars
  pub most : Within (2 ^ 70) row.most

-- the assignment meets the row
abbrev pub Holds : (ℕ → ℤ) → Diff → Type 0
Holds v row = (v row.x -ℤ v row.y) ≤ℤ row.most

-- the assignment meets each row, and gives zero to variable zero
pub record Meets (rows : List Diff) (v : ℕ → ℤ) : Type 0 where
  pub zero_first : v 0 ≡ pos 0
  pub each : All (Holds v) rows

-- some assignment meets the rows
abbrev pub IsSolvable : List Diff → Type 0
IsSolvable rows = (v : ℕ → ℤ) × Meets rows v

-- numbers of rows: the first row's x is x, each row's y is the next one's x, and the last one's y is y
abbrev pub IsChain : List Diff → ℕ → List ℕ → ℕ → Type 0
IsChain rows x [] y = x ≡ y
IsChain rows x (i ∷ chain) y = (i < length rows) × ((row_at rows i).x ≡ x) × IsChain rows (row_at rows i).y chain y

-- the sum of the bounds of the rows with these numbers
abbrev pub sum_of : List Diff → List ℕ → ℤ
sum_of rows [] = pos 0
sum_of rows (i ∷ chain) = (row_at rows i).most +ℤ sum_of rows chain

-- at least one row, from a variable back to it, with a sum below zero
pub record IsCycle (rows : List Diff) (chain : List ℕ) : Type 0 where
  pub some : chain ≢ []
  pub at : ℕ
  pub closed : IsChain rows at chain at
  pub below : sum_of rows chain <ℤ pos 0

-- x - y is at most this number in each assignment that meets the rows
abbrev pub IsBound : List Diff → ℕ → ℕ → ℤ → Type 0
IsBound rows x y most = (v : ℕ → ℤ) → Meets rows v → (v x -ℤ v y) ≤ℤ most

-- for each number there is an assignment that meets the rows, in which x - y is greater
abbrev pub IsUnbounded : List Diff → ℕ → ℕ → Type 0
IsUnbounded rows x y = (t : ℤ) → (v : ℕ → ℤ) × Meets rows v × (t <ℤ (v x -ℤ v y))

-- rows with a cycle are met by no assignment
abbrev pub AnswersExclude : Type 0
AnswersExclude = (rows : List Diff) (chain : List ℕ) → IsCycle rows chain → ¬ IsSolvable rows

-- what has a bound is not unbounded
abbrev pub WidthsExclude : Type 0
WidthsExclude = (rows : List Diff) (x y : ℕ) (most : ℤ) → IsBound rows x y most → ¬ IsUnbounded rows x y
