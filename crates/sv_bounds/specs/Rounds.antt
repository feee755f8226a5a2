-- Rounds of lowering: each round has a value for each variable, made from the values of the round before it.
use Rattle.std.specs.Prelude.{◌≡◌, ◌⊎◌, ℕ, ◌+◌, ◌*◌, ◌^◌, ◌<◌, List, [], length, map, get_or, ℤ, pos, neg_ℤ, ◌+ℤ◌, ◌<ℤ◌, ◌≤ℤ◌}
use Rattle.std.specs.Global.{Vec}
use Rattle.sv_bounds.specs.declared.systems.Diff.{Diff}
use Rattle.sv_bounds.specs.declared.rounds.Cell.{Cell}
use Rattle.sv_bounds.specs.Differences.{row_at, Within}

abbrev pub no_cell : Cell
no_cell = record { value = pos 0; by = 0 }

abbrev pub cell_of : List Cell → ℕ → Cell
cell_of cells x = get_or cells x no_cell

abbrev pub value : List Cell → ℕ → ℤ
value cells x = (cell_of cells x).value

-- what row i asks of its x
abbrev pub asked : List Diff → ℕ → List Cell → ℤ
asked rows i old = value old (row_at rows i).y +ℤ (row_at rows i).most

-- a row lowered the variable to what it asks
pub record IsLowered (rows : List Diff) (old : List Cell) (x : ℕ) (cell : Cell) : Type 0 where
  pub stands : cell.by < length rows
  pub from : (row_at rows cell.by).x ≡ x
  pub is : cell.value ≡ asked rows cell.by old
  pub less : cell.value <ℤ value old x

-- the next round, after the first rows
pub record IsNext (rows : List Diff) (done : ℕ) (old new : List Cell) : Type 0 where
  pub long : length new ≡ length old
  pub cells : (x : ℕ) → x < length old → (cell_of new x ≡ cell_of old x) ⊎ IsLowered rows old x (cell_of new x)
  pub below : (i : ℕ) → i < done → value new (row_at rows i).x ≤ℤ asked rows i old

-- the values meet each row
abbrev pub IsStable : List Diff → List Cell → Type 0
IsStable rows cells = (i : ℕ) → i < length rows → value cells (row_at rows i).x ≤ℤ asked rows i cells

-- some variable is lower, or none is
abbrev pub Fell : List Cell → List Cell → ℕ → Type 0
Fell old new x = value new x <ℤ value old x

abbrev pub Stays : List Cell → List Cell → Type 0
Stays old new = (x : ℕ) → x < length old → value old x ≤ℤ value new x

-- the lists that the vectors hold
abbrev pub lists : List (Vec Cell) → List (List Cell)
lists rounds = map (λ round. round.items) rounds

abbrev pub round_at : List (List Cell) → ℕ → List Cell
round_at rounds r = get_or rounds r []

-- near zero, or near the far start, by r bounds
abbrev pub Near : ℕ → ℤ → Type 0
Near r z = Within (r * 2 ^ 70) z ⊎ Within (r * 2 ^ 70) (z +ℤ neg_ℤ (pos (2 ^ 100)))

-- each variable starts at zero or far from it
abbrev pub IsStart : List Cell → Type 0
IsStart cells = (x : ℕ) → (value cells x ≡ pos 0) ⊎ (value cells x ≡ pos (2 ^ 100))

-- rounds from a start, each made of the one before it
pub record AreRounds (rows : List Diff) (vars : ℕ) (rounds : List (List Cell)) : Type 0 where
  pub long : (r : ℕ) → r < length rounds → length (round_at rounds r) ≡ vars
  pub next : (r : ℕ) → r + 1 < length rounds → IsNext rows (length rows) (round_at rounds r) (round_at rounds (r + 1))
  pub start : IsStart (round_at rounds 0)
