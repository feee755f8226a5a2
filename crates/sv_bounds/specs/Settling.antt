-- Rounds that go on until no variable falls.
use Rattle.std.specs.Prelude.{◌≡◌, ◌≢◌, ℕ, ◌+◌, ◌-◌, ◌<◌, ◌≤◌, List, length, ℤ, pos, ◌-ℤ◌}
use Rattle.sv_bounds.specs.declared.systems.Diff.{Diff}
use Rattle.sv_bounds.specs.declared.rounds.Cell.{Cell}
use Rattle.sv_bounds.specs.declared.settling.Settled.{Settled}
use Rattle.sv_bounds.specs.declared.settling.Settled.TheVariants.{Stable, Cyclic}
use Rattle.sv_bounds.specs.Differences.{IsCycle}
use Rattle.sv_bounds.specs.Answers.{assigned}
use Rattle.sv_bounds.specs.Rounds.{value, Fell, lists, round_at, AreRounds, IsStable}

abbrev pub last_of : List (List Cell) → List Cell
last_of rounds = round_at rounds (length rounds - 1)

-- zero at y, and far at each other variable
pub record IsBegun (vars y : ℕ) (far : ℤ) (cells : List Cell) : Type 0 where
  pub long : length cells ≡ vars
  pub here : value cells y ≡ pos 0
  pub there : (x : ℕ) → x < vars → x ≢ y → value cells x ≡ far

-- rounds from a start, the last of which meets each row
pub record IsStableFrom (rows : List Diff) (start : List Cell) (rounds : List (List Cell)) : Type 0 where
  pub are : AreRounds rows (length start) rounds
  pub first : round_at rounds 0 ≡ start
  pub some : 1 ≤ length rounds
  pub many : length rounds ≤ length start
  pub stable : IsStable rows (last_of rounds)

abbrev pub IsSettled : List Diff → List Cell → Settled → Type 0
IsSettled rows start (Stable rounds) = IsStableFrom rows start (lists rounds.items)
IsSettled rows start (Cyclic chain) = IsCycle rows chain.items

-- so many rounds after the start, each of which lowered a variable, the last one x
pub record IsSettling (rows : List Diff) (start : List Cell) (rounds : List (List Cell)) (done x : ℕ) : Type 0 where
  pub are : AreRounds rows (length start) rounds
  pub first : round_at rounds 0 ≡ start
  pub count : length rounds ≡ done + 1
  pub inside : x < length start
  pub fell : (k : ℕ) → k + 1 ≡ done → Fell (round_at rounds k) (round_at rounds done) x

-- the values of a round, less that of variable zero
pub record IsShifted (cells : List Cell) (values : List ℤ) : Type 0 where
  pub long : length values ≡ length cells
  pub each : (x : ℕ) → x < length cells → assigned values x ≡ (value cells x -ℤ value cells 0)
