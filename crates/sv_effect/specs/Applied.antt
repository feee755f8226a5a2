-- What an operation does to stamped tables, change by change: the i-th change has the stamp (time, site, i).
use Rattle.std.specs.Prelude.{ℕ, suc, Bool, false, List, [], ◌∷◌, Option, Some, None, slice_get, unwrap_or}
use Rattle.std.specs.FinMap.{get, insert}
use Rattle.sv_value.specs.declared.values.Key.{Key}
use Rattle.sv_value.specs.declared.values.Val.{Val}
use Rattle.sv_app.specs.declared.places.Place.{Place}
use Rattle.sv_app.specs.declared.schemas.Column.{Column}
use Rattle.sv_app.specs.Schema.{Declaration}
use Rattle.sv_effect.specs.declared.ops.RowEffect.{RowEffect}
use Rattle.sv_effect.specs.declared.ops.Op.{Op}
use Rattle.sv_effect.specs.StampedTables.{Stamped, StampedRow, StampedTables}
use Rattle.sv_effect.specs.RowChange.{changed, is_annotated, zero_values, row_from}

abbrev pub place_of : RowEffect → Place
place_of e = record { table = e.table; key = e.key }

-- a change with its stamp
abbrev pub Change : Type 0
Change = Stamped RowEffect

abbrev pub changes_from : Op → ℕ → List RowEffect → List Change
changes_from op number [] = []
changes_from op number (e ∷ es) = record { value = e; stamp = record { time = op.time; site = op.site; place = number } } ∷ changes_from op (suc number) es

abbrev pub changes_of : Op → List Change
changes_of op = changes_from op 0 op.effects

-- what the schema says of a table by its number; one that isn't declared has no columns and no annotation
abbrev pub columns_of : Option Declaration → List Column
columns_of None = []
columns_of (Some table) = table.columns

abbrev pub annotation_of : Option Declaration → Bool
annotation_of None = false
annotation_of (Some table) = is_annotated table.kind

abbrev pub zeros_of : Option Declaration → Key → List Val
zeros_of None key = []
zeros_of (Some table) key = zero_values table key

abbrev pub columns_in : List Declaration → Place → List Column
columns_in schema p = columns_of (slice_get schema p.table)

abbrev pub annotated_in : List Declaration → Place → Bool
annotated_in schema p = annotation_of (slice_get schema p.table)

abbrev pub zeros_in : List Declaration → Place → List Val
zeros_in schema p = zeros_of (slice_get schema p.table) p.key

abbrev pub zero_row_in : List Declaration → Place → StampedRow
zero_row_in schema p = row_from (columns_in schema p) (zeros_in schema p) false

-- a change of the row at a place
abbrev pub changed_at : List Declaration → Place → Change → StampedRow → StampedRow
changed_at schema p change row = changed (annotated_in schema p) change.stamp change.value row

abbrev pub with_change_at : List Declaration → Place → Change → StampedTables → StampedTables
with_change_at schema p change t = insert t p (changed_at schema p change (unwrap_or (get t p) (zero_row_in schema p)))

abbrev pub with_changes : List Declaration → List Change → StampedTables → StampedTables
with_changes schema [] t = t
with_changes schema (c ∷ cs) t = with_changes schema cs (with_change_at schema (place_of c.value) c t)

abbrev pub applied : List Declaration → Op → StampedTables → StampedTables
applied schema op t = with_changes schema (changes_of op) t
