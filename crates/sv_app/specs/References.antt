-- References from table to table, by the tables' numbers, and the cycles that they form.
use Rattle.std.specs.Prelude.{◌≡◌, ℕ, ◌<◌, Bool, List, Option, Some, None, ◌==◌, IsTrue}
use Rattle.std.specs.List.{slice_get, list_any}
use Rattle.sv_app.specs.declared.refusals.Code.TheVariants.{Cyclic}
use Rattle.sv_app.specs.declared.refusals.Refusal.{Refusal}
use Rattle.sv_app.specs.Lookups.{holds_of, place_of, table_names}
use Rattle.sv_app.specs.Schema.{Rule, Bound, OneOf, Different, Refers, Declaration}

-- the number of the table that an invariant refers to
abbrev pub referred : List Declaration → Rule → Option ℕ
referred schema (Bound check) = None
referred schema (OneOf name texts) = None
referred schema (Different name) = None
referred schema (Refers name table target) = place_of table (table_names schema)

-- an invariant of table a refers to table b
abbrev pub refers : List Declaration → ℕ → ℕ → Bool
refers schema a b = holds_of (slice_get schema a) (λ t. list_any (λ inv. holds_of (referred schema inv.rule) (λ place. place == b)) t.invs)

-- references lead from table a to table b, in one step or more
pub data Leads (schema : List Declaration) : ℕ → ℕ → Type 0 where
  Step : (a b : ℕ) → IsTrue (refers schema a b) → Leads schema a b
  Further : (a b c : ℕ) → Leads schema a b → IsTrue (refers schema b c) → Leads schema a c

abbrev pub IsOnCycle : List Declaration → ℕ → Type 0
IsOnCycle schema a = Leads schema a a

-- it stands at the name of the first table that is on a cycle
pub record IsCyclic (schema : List Declaration) (refusal : Refusal) : Type 0 where
  pub number : ℕ
  pub table : Declaration
  pub stands : slice_get schema number ≡ Some table
  pub cyclic : IsOnCycle schema number
  pub first : (other : ℕ) → other < number → IsOnCycle schema other → ⊥
  pub is : refusal ≡ record { spot = table.name.spot; code = Cyclic }
