-- What is asked of the system of a table's checks: for each check both sides, and each side from zero; and what is answered.
use Rattle.std.specs.Prelude.{◌≡◌, ℕ, ◌<◌, ℤ, List, [], ◌∷◌, map, Option, Some, None}
use Rattle.std.specs.List.{All, flat_map}
use Rattle.sv_app.specs.declared.schemas.Check.{Check}
use Rattle.sv_app.specs.Satisfiable.{checks_of, number_of}
use Rattle.sv_app.specs.Schema.{Declaration}
use Rattle.sv_bounds.specs.declared.systems.System.{System}
use Rattle.sv_bounds.specs.declared.systems.Widest.{Widest}
use Rattle.sv_bounds.specs.declared.systems.Widest.TheVariants.{Most, Unbounded}
use Rattle.sv_bounds.specs.Answers.{IsSystem}
use Rattle.sv_bounds.specs.Differences.{IsSolvable}
use Rattle.sv_gains.specs.declared.gains.Gain.{Gain}
use Rattle.sv_gains.specs.Gains.{IsGain, IsShort}
use Rattle.sv_gains.specs.Systems.{variable_of, row_of, IsCheckRow}

abbrev pub asked_by : Check → List (Option ℕ × Option ℕ)
asked_by check = (number_of check.hi, number_of check.lo) ∷ (None, number_of check.lo) ∷ (number_of check.hi, None) ∷ []

abbrev pub asked_in : List Check → List (Option ℕ × Option ℕ)
asked_in checks = flat_map asked_by checks

-- sides of the 17 variables
abbrev pub AreSides : Option ℕ × Option ℕ → Type 0
AreSides sides = (variable_of sides.0 < 17) × (variable_of sides.1 < 17)

-- a system whose rows are those of checks that some numbers meet
pub record IsCheckSystem (s : System) : Type 0 where
  pub system : IsSystem s
  pub vars : s.vars ≡ 17
  pub within : All IsCheckRow s.rows
  pub solvable : IsSolvable s.rows

abbrev pub most_of : Widest → Option ℤ
most_of (Most most values chain) = Some most
most_of Unbounded = None

-- the answer is right of each table that has these rows
pub record IsRight (s : System) (noted : Gain) : Type 0 where
  pub gain : (table : Declaration) → s.rows ≡ map row_of (checks_of table) → IsGain table noted.hi noted.lo noted.most
  pub short : IsShort noted.most

abbrev pub sides_of : Gain → Option ℕ × Option ℕ
sides_of gain = (gain.hi, gain.lo)
