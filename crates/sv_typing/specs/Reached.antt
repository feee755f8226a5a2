-- Sets of tables that references lead to from one table: a list tells of each table's number whether it is in the set.
use Rattle.std.specs.Prelude.{◌≡◌, ℕ, ◌<◌, Bool, true, false, List, length, get_or}
use Rattle.sv_app.specs.References.{refers, Leads}
use Rattle.sv_app.specs.Schema.{Declaration}

abbrev pub is_in : List Bool → ℕ → Bool
is_in reached table = get_or reached table false

-- references lead to each that is in the set
abbrev pub AreLedTo : List Declaration → ℕ → List Bool → Type 0
AreLedTo schema start reached = (table : ℕ) → is_in reached table ≡ true → Leads schema start table

-- neither the first table nor one of the set refers to it
pub record IsApart (schema : List Declaration) (start : ℕ) (reached : List Bool) (table : ℕ) : Type 0 where
  pub first : refers schema start table ≡ false
  pub others : (from : ℕ) → from < length schema → is_in reached from ≡ true → refers schema from table ≡ false

-- each table outside the set is apart
abbrev pub IsClosed : List Declaration → ℕ → List Bool → Type 0
IsClosed schema start reached = (table : ℕ) → table < length schema → is_in reached table ≡ false → IsApart schema start reached table
