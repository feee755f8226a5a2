-- The first n of two lists of counts, one by one.
use Rattle.std.specs.Prelude.{ℕ, ◌<◌, ◌≤◌, List, get_or}

abbrev pub Below : List ℕ → List ℕ → ℕ → Type 0
Below xs ys n = (k : ℕ) → k < n → get_or xs k 0 ≤ get_or ys k 0
