-- The greatest difference of two columns of a table, over all numbers that meet its checks; a missing column counts as zero.
use Rattle.std.specs.Prelude.{◌≡◌, ℕ, ◌==◌, ◌&&◌, ◌^◌, if◌then◌else◌, ℤ, ◌-ℤ◌, ◌<ℤ◌, ◌≤ℤ◌, Bool, true, false, List, [], ◌∷◌, Option, Some, None, IfSome}
use Rattle.std.specs.List.{All}
use Rattle.sv_app.specs.declared.schemas.Check.{Check}
use Rattle.sv_app.specs.Satisfiable.{checks_of, number_of, value_of, IsMet}
use Rattle.sv_app.specs.Schema.{Declaration}
use Rattle.sv_bounds.specs.Differences.{Within}
use Rattle.sv_gains.specs.declared.gains.Gain.{Gain}

abbrev pub difference_of : (ℕ → ℤ) → Option ℕ → Option ℕ → ℤ
difference_of numbers hi lo = value_of numbers hi -ℤ value_of numbers lo

-- no numbers that meet the checks have more, and some have just as much
pub record IsGreatest (table : Declaration) (hi lo : Option ℕ) (most : ℤ) : Type 0 where
  pub bound : (numbers : ℕ → ℤ) → All (IsMet numbers) (checks_of table) → difference_of numbers hi lo ≤ℤ most
  pub numbers : ℕ → ℤ
  pub met : All (IsMet numbers) (checks_of table)
  pub reached : difference_of numbers hi lo ≡ most

-- some numbers that meet the checks have more
pub record Exceeds (table : Declaration) (hi lo : Option ℕ) (most : ℤ) : Type 0 where
  pub numbers : ℕ → ℤ
  pub met : All (IsMet numbers) (checks_of table)
  pub more : most <ℤ difference_of numbers hi lo

-- the greatest hi - lo; none where there is more than any number
abbrev pub IsGain : Declaration → Option ℕ → Option ℕ → Option ℤ → Type 0
IsGain table hi lo (Some most) = IsGreatest table hi lo most
IsGain table hi lo None = (most : ℤ) → Exceeds table hi lo most

-- what tells the greatest differences
abbrev pub Teller : Type 0
Teller = Option ℕ → Option ℕ → Option ℤ

-- it tells those that the cases of a check ask: of both sides, and of each side from zero
pub record Tells (table : Declaration) (told : Teller) (check : Check) : Type 0 where
  pub both : IsGain table (number_of check.hi) (number_of check.lo) (told (number_of check.hi) (number_of check.lo))
  pub lesser : IsGain table None (number_of check.lo) (told None (number_of check.lo))
  pub greater : IsGain table (number_of check.hi) None (told (number_of check.hi) None)

-- it does so of each check of the table
abbrev pub AreGains : Declaration → Teller → Type 0
AreGains table told = All (Tells table told) (checks_of table)

-- it stays far below the bounds that a system of differences takes
abbrev pub IsShort : Option ℤ → Type 0
IsShort gain = IfSome gain (λ most. Within (2 ^ 68) most)

-- the one that is noted first for two sides
abbrev pub is_side : Option ℕ → Option ℕ → Bool
is_side None None = true
is_side None (Some b) = false
is_side (Some a) None = false
is_side (Some a) (Some b) = a == b

abbrev pub noted_in : List Gain → Teller
noted_in [] hi lo = None
noted_in (gain ∷ gains) hi lo = if is_side gain.hi hi && is_side gain.lo lo then gain.most else noted_in gains hi lo
