-- The tables of initial rows, and the first of these rows that breaks an invariant with all of them.
use Rattle.std.specs.Prelude.{◌≡◌, ◌⊎◌, ℕ, ◌<◌, ◌≤◌, true, All, List, [], ◌∷◌, map, Option, Some, None, slice_get}
use Rattle.std.specs.FinMap as map_of
use Rattle.std.specs.FinMap.{insert}
use Rattle.sv_app.specs.declared.apps.Ident.{Ident}
use Rattle.sv_app.specs.declared.requests.InitRow.{InitRow}
use Rattle.sv_app.specs.Accepted.{AcceptedSchema}
use Rattle.sv_app.specs.Schema.{Rule, Bound, OneOf, Different, Refers, Invariant, Declaration}
use Rattle.sv_app.specs.Tables.{Row, Tables}
use Rattle.sv_app.specs.Valid.{value_of, Holds, IsInvariant, Valid}
use Rattle.sv_effect.specs.Run.{row_with}
use Rattle.sv_effect.specs.BareTables.{got_of, bare}
use Rattle.sv_effect.specs.Cut.{empty}
use Rattle.sv_effect.specs.Initial.{InitFits}
use Rattle.sv_effect.specs.TablesOfCut.{init_place, tables_held}

-- each is present
abbrev pub initial_row : InitRow → Row
initial_row row = row_with (map got_of row.values) true

abbrev pub initial_tables : List InitRow → Tables
initial_tables [] = map_of.empty
initial_tables (row ∷ rows) = insert (initial_tables rows) (init_place row) (initial_row row)

-- an earlier row of the table has the value
pub record HasEarlier (init : List InitRow) (place : ℕ) (row : InitRow) (column : Ident) : Type 0 where
  pub earlier : ℕ
  pub other : InitRow
  pub before : earlier < place
  pub stands : slice_get init earlier ≡ Some other
  pub beside : other.table ≡ row.table
  pub equal : value_of (initial_row other) column ≡ value_of (initial_row row) column

-- the row, which stands at the place in the list, breaks a rule of its table; of two rows with equal values it is the later one
abbrev pub Fails : List Declaration → List InitRow → ℕ → InitRow → Rule → Type 0
Fails schema init place row (Different column) = HasEarlier init place row column
Fails schema init place row (Bound check) = Holds schema (initial_tables init) row.table (Bound check) row.key (initial_row row) → ⊥
Fails schema init place row (OneOf column texts) = Holds schema (initial_tables init) row.table (OneOf column texts) row.key (initial_row row) → ⊥
Fails schema init place row (Refers column parent target) = Holds schema (initial_tables init) row.table (Refers column parent target) row.key (initial_row row) → ⊥

-- the row at the place breaks the invariant of the number
pub record BreaksAt (schema : List Declaration) (init : List InitRow) (place number : ℕ) : Type 0 where
  pub row : InitRow
  pub inv : Invariant
  pub stands : slice_get init place ≡ Some row
  pub declared : IsInvariant schema row.table inv
  pub named : inv.number ≡ number
  pub fails : Fails schema init place row inv.rule

-- the first row that breaks one, and the lowest that it breaks
pub record IsFirst (schema : List Declaration) (init : List InitRow) (place number : ℕ) : Type 0 where
  pub breaks : BreaksAt schema init place number
  pub first : (other n : ℕ) → BreaksAt schema init other n → (place < other) ⊎ ((place ≡ other) × (number ≤ n))

-- an answer is the invariant and the row, or none where the tables are valid
abbrev pub IsAnswer : List Declaration → List InitRow → Option (ℕ × ℕ) → Type 0
IsAnswer schema init None = Valid schema (initial_tables init)
IsAnswer schema init (Some found) = IsFirst schema init found.1 found.0

-- the tables that a store starts with, without their stamps
abbrev pub StoresStart : Type 0
StoresStart = (schema : List Declaration) (init : List InitRow) → AcceptedSchema schema → All (InitFits schema) init → bare (tables_held schema init empty) ≡ initial_tables init
