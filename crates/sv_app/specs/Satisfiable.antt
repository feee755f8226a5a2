-- Checks that a row can meet: some whole numbers for the columns of the table meet all of them. Where none do, there is a cycle of checks whose
-- bounds add up to less than zero.
use Rattle.std.specs.Prelude.{◌≡◌, ◌≢◌, ℕ, ◌<◌, ℤ, pos, ◌+ℤ◌, ◌-ℤ◌, ◌<ℤ◌, ◌≤ℤ◌, List, [], ◌∷◌, Option, Some, None, slice_get}
use Rattle.std.specs.List.{All, flat_map}
use Rattle.std.specs.Option.{option_map}
use Rattle.sv_app.specs.declared.apps.Ident.{Ident}
use Rattle.sv_app.specs.declared.refusals.Code.TheVariants.{Unsatisfiable}
use Rattle.sv_app.specs.declared.refusals.Refusal.{Refusal}
use Rattle.sv_app.specs.declared.schemas.Check.{Check}
use Rattle.sv_app.specs.Schema.{Rule, Bound, OneOf, Different, Refers, Declaration}

-- the checks of a table, in order
abbrev pub check_in : Rule → List Check
check_in (Bound check) = check ∷ []
check_in (OneOf column texts) = []
check_in (Different column) = []
check_in (Refers column table target) = []

abbrev pub checks_of : Declaration → List Check
checks_of table = flat_map (λ inv. check_in inv.rule) table.invs

-- a column's number; none where it is missing, which counts as zero
abbrev pub number_of : Option Ident → Option ℕ
number_of side = option_map (λ column. column.num) side

abbrev pub value_of : (ℕ → ℤ) → Option ℕ → ℤ
value_of v None = pos 0
value_of v (Some column) = v column

-- numbers for the columns meet a check
abbrev pub IsMet : (ℕ → ℤ) → Check → Type 0
IsMet v check = (value_of v (number_of check.hi) -ℤ value_of v (number_of check.lo)) ≤ℤ check.most

pub record IsSatisfiable (table : Declaration) : Type 0 where
  pub values : ℕ → ℤ
  pub met : All (IsMet values) (checks_of table)

-- one check of a chain: it leads from a side to another, and then the rest of the chain leads on
pub record Leads (Rest : Option ℕ → Type 0) (checks : List Check) (from : Option ℕ) (number : ℕ) : Type 0 where
  pub check : Check
  pub stands : slice_get checks number ≡ Some check
  pub begins : number_of check.hi ≡ from
  pub goes : Rest (number_of check.lo)

-- checks by their numbers: the first one's greater side is `from`, each one's lesser side is the next one's greater side, and the last one's is `to`
abbrev pub IsChain : List Check → Option ℕ → List ℕ → Option ℕ → Type 0
IsChain checks from [] to = from ≡ to
IsChain checks from (number ∷ chain) to = Leads (λ next. IsChain checks next chain to) checks from number

abbrev pub bound_at : Option Check → ℤ
bound_at None = pos 0
bound_at (Some check) = check.most

abbrev pub sum_of : List Check → List ℕ → ℤ
sum_of checks [] = pos 0
sum_of checks (number ∷ chain) = bound_at (slice_get checks number) +ℤ sum_of checks chain

-- at least one check, from a side back to it, and a sum of bounds below zero
pub record IsCycleOf (checks : List Check) (chain : List ℕ) : Type 0 where
  pub some : chain ≢ []
  pub at : Option ℕ
  pub closed : IsChain checks at chain at
  pub below : sum_of checks chain <ℤ pos 0

-- some row can meet the checks of each table
abbrev pub AreSatisfiable : List Declaration → Type 0
AreSatisfiable schema = (number : ℕ) (table : Declaration) → slice_get schema number ≡ Some table → IsSatisfiable table

-- it stands at the name of the first table with checks that no row can meet, and has a cycle of them
pub record IsUnmet (schema : List Declaration) (refusal : Refusal) : Type 0 where
  pub number : ℕ
  pub table : Declaration
  pub stands : slice_get schema number ≡ Some table
  pub cycle : List ℕ
  pub closed : IsCycleOf (checks_of table) cycle
  pub first : (other : ℕ) (before : Declaration) → other < number → slice_get schema other ≡ Some before → IsSatisfiable before
  pub is : refusal ≡ record { spot = table.name.spot; code = Unsatisfiable number cycle }
