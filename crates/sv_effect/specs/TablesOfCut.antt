-- The tables of a cut, a query over the set of operations that it holds. A row is kept if it is an initial row or a held change names it.
-- A counter is its initial value plus the sum of all held deltas; a cell that the last writer wins, and the mark of an annotated table's row,
-- have what the change of the greatest stamp gave; a plain cell, and another table's mark, what the last red operation that gives them gave.
use Rattle.std.specs.Prelude.{ℕ, zero, suc, ℤ, pos, ◌+ℤ◌, ◌==◌, Bool, true, false, if◌then◌else◌, List, [], ◌∷◌, ◌++◌, map, Option, Some, None}
use Rattle.std.specs.List.{flat_map}
use Rattle.std.specs.Ordering.{eq_by_cmp}
use Rattle.std.specs.FinMap.{insert}
use Rattle.std.specs.FinMap as fin
use Rattle.sv_value.specs.declared.stamps.Stamp.{Stamp}
use Rattle.sv_value.specs.declared.values.Val.{Val}
use Rattle.sv_app.specs.declared.places.Place.{Place}
use Rattle.sv_app.specs.declared.requests.InitRow.{InitRow}
use Rattle.sv_app.specs.declared.schemas.Column.{Column}
use Rattle.sv_app.specs.declared.schemas.Merge.{Merge}
use Rattle.sv_app.specs.declared.schemas.Merge.TheVariants as merges
pub use Rattle.sv_app.specs.Fitting.{number_in}
use Rattle.sv_app.specs.Schema.{Declaration}
use Rattle.sv_app.specs.Tables.{place_cmp}
use Rattle.sv_effect.specs.declared.cells.Cell.{Cell}
use Rattle.sv_effect.specs.declared.cells.Cell.TheVariants.{Count, Plain}
use Rattle.sv_effect.specs.declared.ops.Write.{Write}
use Rattle.sv_effect.specs.declared.ops.Write.TheVariants.{Delta, Set}
use Rattle.sv_effect.specs.declared.ops.Op.{Op}
use Rattle.sv_effect.specs.StampedTables.{Stamped, StampedRow, StampedTables, zero_stamp}
use Rattle.sv_effect.specs.RowChange.{later, last_cell, turn_of}
use Rattle.sv_effect.specs.Applied.{Change, changes_of, place_of, columns_in, annotated_in, zeros_in}
use Rattle.sv_effect.specs.Cut.{Cut, Medium, held}

abbrev pub is_place : Place → Place → Bool
is_place p q = eq_by_cmp place_cmp p q

-- the changes of the row at a place
abbrev pub at_place : Place → List Change → List Change
at_place p [] = []
at_place p (c ∷ cs) = if is_place p (place_of c.value) then c ∷ at_place p cs else at_place p cs

abbrev pub changes_by : List Op → List Change
changes_by ops = flat_map changes_of ops

-- the held changes of the row at a place, by the origins of their operations
abbrev pub Family : Type 0 → Type 0
Family A = ℕ → List A

abbrev pub changes_at : Place → Medium → Family Change
changes_at p m o = at_place p (changes_by (m o))

-- the writes that changes make to a column
abbrev pub to_column : ℕ → Stamp → List (ℕ × Write) → List (Stamped Write)
to_column column s [] = []
to_column column s (w ∷ ws) = if w.0 == column then record { value = w.1; stamp = s } ∷ to_column column s ws else to_column column s ws

abbrev pub writes_to : ℕ → List Change → List (Stamped Write)
writes_to column cs = flat_map (λ c. to_column column c.stamp c.value.writes.items) cs

-- what writes add, and what they set
abbrev pub delta_of : Write → ℤ
delta_of (Delta d) = d
delta_of (Set v) = pos 0

abbrev pub sum_of : List (Stamped Write) → ℤ
sum_of [] = pos 0
sum_of (w ∷ ws) = delta_of w.value +ℤ sum_of ws

abbrev pub set_by : Write → Stamp → List (Stamped Val)
set_by (Delta d) s = []
set_by (Set v) s = record { value = v; stamp = s } ∷ []

abbrev pub sets_of : List (Stamped Write) → List (Stamped Val)
sets_of ws = flat_map (λ w. set_by w.value w.stamp) ws

-- how changes turn the mark
abbrev pub turn_by : Option Bool → Stamp → List (Stamped Bool)
turn_by None s = []
turn_by (Some on) s = record { value = on; stamp = s } ∷ []

abbrev pub turns_of : List Change → List (Stamped Bool)
turns_of cs = flat_map (λ c. turn_by (turn_of c.value.act) c.stamp) cs

-- a sum over the origins below n, and all that stands in their lists
unfoldable pub sum_to : (ℕ → ℤ) → ℕ → ℤ
sum_to f zero = pos 0
sum_to f (suc n) = sum_to f n +ℤ f n

unfoldable pub all_to : {A : Type 0} → Family A → ℕ → List A
all_to f zero = []
all_to f (suc n) = all_to f n ++ f n

-- the one of the greatest stamp, and the last one
abbrev pub greatest : {A : Type 0} → Stamped A → List (Stamped A) → Stamped A
greatest x [] = x
greatest x (y ∷ ys) = greatest (later x y) ys

abbrev pub last : {A : Type 0} → A → List A → A
last x [] = x
last x (y ∷ ys) = last y ys

abbrev pub started : {A : Type 0} → A → Stamped A
started x = record { value = x; stamp = zero_stamp }

abbrev pub plain_cell : Stamped Val → Cell
plain_cell x = Plain x.value

-- a cell by its column's kind, its value from the start, and the held writes to it
abbrev pub cell_by : Merge → Val → Family (Stamped Write) → Cell
cell_by merges.NumDelta v ws = Count (number_in v +ℤ sum_to (λ o. sum_of (ws o)) 9)
cell_by merges.Lww v ws = last_cell (greatest (started v) (all_to (λ o. sets_of (ws o)) 9))
cell_by merges.Plain v ws = plain_cell (last (started v) (sets_of (ws 0)))
cell_by merges.Fresh v ws = plain_cell (last (started v) (sets_of (ws 0)))

abbrev pub cells_by : ℕ → List Column → List Val → Family Change → List Cell
cells_by number (column ∷ columns) (v ∷ vs) cs = cell_by column.merge v (λ o. writes_to number (cs o)) ∷ cells_by (suc number) columns vs cs
cells_by _ _ _ cs = []

-- a mark by the table's kind, whether the row is there from the start, and the held turns of it
abbrev pub mark_by : Bool → Bool → Family (Stamped Bool) → Stamped Bool
mark_by true present ts = greatest (started present) (all_to ts 9)
mark_by false present ts = last (started present) (ts 0)

abbrev pub row_by : Bool → List Column → List Val → Bool → Family Change → StampedRow
row_by annotated columns values present cs = record {
  cells = cells_by 0 columns values cs;
  mark = mark_by annotated present (λ o. turns_of (cs o));
}

abbrev pub init_place : InitRow → Place
init_place row = record { table = row.table; key = row.key }

-- what stands at a place from the start
abbrev pub initial : Place → List InitRow → Option (List Val)
initial p [] = None
initial p (row ∷ rows) = if is_place p (init_place row) then Some row.values else initial p rows

abbrev pub values_or : List Val → Option (List Val) → List Val
values_or zeros None = zeros
values_or zeros (Some values) = values

abbrev pub is_there : Option (List Val) → Bool
is_there None = false
is_there (Some values) = true

-- the row at a place, of the held operations
abbrev pub row_at : List Declaration → List InitRow → Medium → Place → StampedRow
row_at schema init m p = row_by (annotated_in schema p) (columns_in schema p) (values_or (zeros_in schema p) (initial p init)) (is_there (initial p init)) (changes_at p m)

-- the places that changes of a family of lists name
abbrev pub named_by : List Op → List Place
named_by ops = map (λ c. place_of c.value) (changes_by ops)

-- the rows of these places, each by the query
abbrev pub tables_by : List Place → (Place → StampedRow) → StampedTables
tables_by [] row = fin.empty
tables_by (p ∷ ps) row = insert (tables_by ps row) p (row p)

-- the tables that a family of held lists gives
abbrev pub tables_held : List Declaration → List InitRow → Medium → StampedTables
tables_held schema init m = tables_by (map init_place init ++ all_to (λ o. named_by (m o)) 9) (row_at schema init m)

abbrev pub tables_of : List Declaration → List InitRow → Medium → Cut → StampedTables
tables_of schema init m cut = tables_held schema init (held m cut)
