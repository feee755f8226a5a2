-- What a change makes of a row: each write changes its column's cell, and the act turns the row's mark.
use Rattle.std.specs.Prelude.{ℕ, suc, pos, ◌+ℤ◌, ◌==◌, if◌then◌else◌, Bool, true, false, List, [], ◌∷◌, Option, Some, None}
use Rattle.std.specs.Ordering.{is_lt}
use Rattle.sv_value.specs.declared.values.Val.{Val}
use Rattle.sv_value.specs.declared.values.Val.TheVariants.{Int, Text as IsText}
use Rattle.sv_value.specs.declared.values.Key.{Key}
use Rattle.sv_value.specs.declared.stamps.Stamp.{Stamp}
use Rattle.sv_value.specs.Orders.{stamp_cmp}
use Rattle.sv_app.specs.declared.acts.Act.{Act}
use Rattle.sv_app.specs.declared.acts.Act.TheVariants.{Insert, Fresh, Update, Remove}
use Rattle.sv_app.specs.declared.apps.Ident.{Ident}
use Rattle.sv_app.specs.declared.schemas.Column.{Column}
use Rattle.sv_app.specs.declared.schemas.Merge.{Merge}
use Rattle.sv_app.specs.declared.schemas.Merge.TheVariants as merges
use Rattle.sv_app.specs.declared.schemas.Ty.{Ty}
use Rattle.sv_app.specs.declared.schemas.Ty.TheVariants as types
pub use Rattle.sv_app.specs.Kinds.{is_annotated}
use Rattle.sv_app.specs.Schema.{Declaration}
use Rattle.sv_effect.specs.declared.cells.Cell.{Cell}
use Rattle.sv_effect.specs.declared.cells.Cell.TheVariants.{Count, Last, Plain}
use Rattle.sv_effect.specs.declared.ops.Write.{Write}
use Rattle.sv_effect.specs.declared.ops.Write.TheVariants.{Delta, Set}
use Rattle.sv_effect.specs.declared.ops.RowEffect.{RowEffect}
use Rattle.sv_effect.specs.StampedTables.{Stamped, StampedRow, zero_stamp}

-- the one of the greater stamp
abbrev pub later : {A : Type 0} → Stamped A → Stamped A → Stamped A
later old new = if is_lt (stamp_cmp old.stamp new.stamp) then new else old

abbrev pub last_cell : Stamped Val → Cell
last_cell x = Last x.value x.stamp

-- one write on one cell
abbrev pub written : Stamp → Write → Cell → Cell
written s (Delta d) (Count n) = Count (n +ℤ d)
written s (Set v) (Last old t) = last_cell (later (record { value = old; stamp = t }) (record { value = v; stamp = s }))
written s (Set v) (Plain old) = Plain v
written s w cell = cell

-- the writes to a column, made to its cell
abbrev pub made : Stamp → ℕ → List (ℕ × Write) → Cell → Cell
made s column [] cell = cell
made s column (w ∷ ws) cell = made s column ws (if w.0 == column then written s w.1 cell else cell)

-- each cell by its column's number
abbrev pub each : (ℕ → Cell → Cell) → ℕ → List Cell → List Cell
each f column [] = []
each f column (cell ∷ cells) = f column cell ∷ each f (suc column) cells

-- a mark turned: in an annotated table by the greater stamp, in another one always
abbrev pub turned : Bool → Stamped Bool → Stamped Bool → Stamped Bool
turned true old new = later old new
turned false old new = new

-- a row is present after an insert and isn't after a remove
abbrev pub turn_of : Act → Option Bool
turn_of Insert = Some true
turn_of Fresh = Some true
turn_of Update = None
turn_of Remove = Some false

abbrev pub marked : Bool → Stamp → Option Bool → Stamped Bool → Stamped Bool
marked annotated s None mark = mark
marked annotated s (Some on) mark = turned annotated mark (record { value = on; stamp = s })

-- one change of a row
abbrev pub changed : Bool → Stamp → RowEffect → StampedRow → StampedRow
changed annotated s e row = record {
  cells = each (λ column. made s column e.writes.items) 0 row.cells;
  mark = marked annotated s (turn_of e.act) row.mark;
}

-- the cell of a column that has a value from the start
abbrev pub cell_from : Merge → Val → Cell
cell_from merges.Plain v = Plain v
cell_from merges.Fresh v = Plain v
cell_from merges.Lww v = Last v zero_stamp
cell_from merges.NumDelta (Int n) = Count n
cell_from merges.NumDelta (IsText _) = Count (pos 0)

abbrev pub cells_from : List Column → List Val → List Cell
cells_from (column ∷ columns) (v ∷ vs) = cell_from column.merge v ∷ cells_from columns vs
cells_from _ _ = []

abbrev pub zero_of : Ty → Val
zero_of types.Int = Int (pos 0)
zero_of types.Text = IsText []
zero_of types.Ints = Int (pos 0)

abbrev pub as_list : Option Val → List Val
as_list None = []
as_list (Some v) = v ∷ []

abbrev pub key_values : Key → List Val
key_values key = key.first ∷ as_list key.second

-- the value that the key gives a column; another column has zero
abbrev pub from_key : List Ident → List Val → ℕ → Val → Val
from_key (name ∷ names) (v ∷ vs) column zero_value = if name.num == column then v else from_key names vs column zero_value
from_key _ _ column zero_value = zero_value

abbrev pub values_from : Declaration → Key → ℕ → List Column → List Val
values_from table key number [] = []
values_from table key number (column ∷ columns) = from_key table.key (key_values key) number (zero_of column.ty) ∷ values_from table key (suc number) columns

-- the values of a row that isn't kept: zero, the empty text, and in the key columns the key
abbrev pub zero_values : Declaration → Key → List Val
zero_values table key = values_from table key 0 table.columns

abbrev pub row_from : List Column → List Val → Bool → StampedRow
row_from columns values present = record { cells = cells_from columns values; mark = record { value = present; stamp = zero_stamp } }

-- the row that changes of a row that isn't kept start from
abbrev pub zero_row : Declaration → Key → StampedRow
zero_row table key = row_from table.columns (zero_values table key) false
