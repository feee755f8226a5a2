-- When a count of faults rose.
use Rattle.std.specs.Prelude.{Result, ℕ, ◌+◌, ◌-◌, ◌^◌, ◌≤◌, min, Ok, Err}

-- one more; the greatest number of 64 bits stays
abbrev pub raised : ℕ → ℕ
raised count = min (count + 1) (2 ^ 64 - 1)

-- the count is greater than before, or stands at the greatest number of 64 bits
abbrev pub Rose : ℕ → ℕ → Type 0
Rose before now = raised before ≤ now

-- the count after a call that answered so: one more exactly where it failed
abbrev pub counted : {A E : Type 0} → Result A E → ℕ → ℕ
counted (Ok _) count = count
counted (Err _) count = raised count
