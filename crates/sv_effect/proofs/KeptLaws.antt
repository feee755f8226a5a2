-- Changes that fit the schema leave tables of the schema.
use Rattle.std.proofs.Common.{◌≡◌, ◌≢◌, ℕ, suc, ◌+◌, ◌==◌, if◌then◌else◌, cond, Bool, true, false, List, [], ◌∷◌, Option, Some, None, slice_get, refl, sym, ap, subst, ◌∙◌, arith}
use Rattle.std.specs.Prelude.{unwrap_or}
use Rattle.std.proofs.lemmas.Map.Views.{tells_apart}
use Rattle.std.specs.FinMap.{get, get-insert}
use Rattle.sv_value.specs.declared.values.Key.{Key}
use Rattle.sv_value.specs.declared.values.Val.{Val}
use Rattle.sv_value.specs.declared.values.Val.TheVariants.{Int, Text}
use Rattle.sv_app.specs.declared.apps.Ident.{Ident}
use Rattle.sv_app.specs.declared.schemas.Column.{Column}
use Rattle.sv_app.specs.declared.schemas.Merge.{Merge}
use Rattle.sv_app.specs.declared.schemas.Merge.TheVariants as merges
use Rattle.sv_app.specs.declared.schemas.Ty.{Ty}
use Rattle.sv_app.specs.declared.schemas.Ty.TheVariants as types
use Rattle.sv_app.specs.Kinds.{is_unmerged}
use Rattle.sv_app.specs.Schema.{Declaration}
use Rattle.sv_app.proofs.PlaceLaws.{place_total, exact_places}
use Rattle.sv_effect.specs.declared.ops.RowEffect.{RowEffect}
use Rattle.sv_effect.specs.declared.ops.Op.{Op}
use Rattle.sv_effect.specs.StampedTables.{StampedRow, StampedTables}
use Rattle.sv_effect.specs.RowChange.{cell_from, cells_from, zero_of, key_values, from_key, values_from, zero_values}
use Rattle.sv_effect.specs.Applied.{Change, place_of, changes_from, columns_of, zeros_of, columns_in, zero_row_in, changed_at, with_change_at, with_changes, applied}
use Rattle.sv_effect.specs.Fits.{HasType, KeyFits, FitsSchema, AllFit, OpFits, CellFits, CellsFit}
use Rattle.sv_effect.specs.TablesOfCut.{is_place}
use Rattle.sv_effect.specs.Commutes.{TablesFit}
use Rattle.sv_effect.specs.Laws.{HasNoLists}
use Rattle.sv_app.proofs.TestLaws.{test_same}
use Rattle.sv_effect.proofs.FitLaws.{writes_fit}

same_column : (a b : Column) → Some a ≡ Some b → a ≡ b
same_column a b e = cc

-- the value that the key gives a column is of the column's type
pub key_type : (columns : List Column) (names : List Ident) (vs : List Val) (number : ℕ) (column : Column) (v : Val) → KeyFits columns names vs → slice_get columns number ≡ Some column
    → HasType column.ty v → HasType column.ty (from_key names vs number v)
key_type columns [] [] number column v fits declared has = has
key_type columns [] (x ∷ vs) number column v fits declared has = has
key_type columns (name ∷ names) [] number column v fits declared has = has
key_type columns (name ∷ names) (x ∷ vs) number column v fits declared has = split (name.num == number) refl (key_type columns names vs number column v fits.1 declared has)
  where
    split : (b : Bool) → (name.num == number) ≡ b → HasType column.ty (from_key names vs number v) → HasType column.ty (if b then x else from_key names vs number v)
    split false is ih = ih
    split true is ih =
        let same : fits.0.0 ≡ column = same_column fits.0.0 column (sym fits.0.1 ∙ ap (slice_get columns) (test_same name.num number is) ∙ declared) in
        subst (λ c. HasType c.ty x) same fits.0.2

pub zero_type : (ty : Ty) → ty ≢ types.Ints → HasType ty (zero_of ty)
zero_type types.Int apart = tt
zero_type types.Text apart = tt
zero_type types.Ints apart = absurd (apart refl)

pub from_fits : (column : Column) (v : Val) (merge : Merge) → column.merge ≡ merge → HasType column.ty v → CellFits column (cell_from merge v)
from_fits column v merges.Plain is has = (ap is_unmerged is, has)
from_fits column v merges.Fresh is has = (ap is_unmerged is, has)
from_fits column v merges.Lww is has = (is, has)
from_fits column (Int n) merges.NumDelta is has = is
from_fits column (Text b) merges.NumDelta is has = is

zeros_fit : (table : Declaration) (key : Key) (k : ℕ) (columns : List Column) → KeyFits table.columns table.key (key_values key)
    → ((j : ℕ) (column : Column) → slice_get columns j ≡ Some column → slice_get table.columns (k + j) ≡ Some column)
    → ((j : ℕ) (column : Column) → slice_get columns j ≡ Some column → column.ty ≢ types.Ints)
    → CellsFit columns (cells_from columns (values_from table key k columns))
zeros_fit table key k [] fits at none_lists = tt
zeros_fit table key k (column ∷ columns) fits at none_lists = (
  from_fits column _ column.merge refl (key_type table.columns table.key (key_values key) k column (zero_of column.ty) fits here (zero_type column.ty (none_lists 0 column refl))),
  zeros_fit table key (suc k) columns fits rest (λ j c e. none_lists (suc j) c e),
)
  where
    here : slice_get table.columns k ≡ Some column
    here = let n : k ≡ (k + 0) = omega arith in ap (slice_get table.columns) n ∙ at 0 column refl

    rest : (j : ℕ) (c : Column) → slice_get columns j ≡ Some c → slice_get table.columns (suc k + j) ≡ Some c
    rest j c e = let n : (suc k + j) ≡ (k + suc j) = omega arith in ap (slice_get table.columns) n ∙ at (suc j) c e

-- the row that changes of a row that isn't kept start from, is of its table
pub zero_fits : (table : Declaration) (key : Key) → KeyFits table.columns table.key (key_values key) → ((j : ℕ) (column : Column) → slice_get table.columns j ≡ Some column → column.ty ≢ types.Ints)
    → CellsFit table.columns (cells_from table.columns (zero_values table key))
zero_fits table key fits none_lists = zeros_fit table key 0 table.columns fits (λ j c e. let n : (0 + j) ≡ j = omega arith in ap (slice_get table.columns) n ∙ e) none_lists

pub change_kept : (schema : List Declaration) (c : Change) (t : StampedTables) → HasNoLists schema → FitsSchema schema c.value → TablesFit schema t → TablesFit schema (with_change_at schema (place_of c.value) c t)
change_kept schema c t none_lists fits tables q row is =
    split (is_place q (place_of c.value)) refl (sym (get-insert place_total t (place_of c.value) (changed_at schema (place_of c.value) c before) q) ∙ is)
  where
    before : StampedRow
    before = unwrap_or (get t (place_of c.value)) (zero_row_in schema (place_of c.value))

    columns : columns_in schema (place_of c.value) ≡ fits.table.columns
    columns = ap columns_of fits.declared

    start : (o : Option StampedRow) → get t (place_of c.value) ≡ o → CellsFit fits.table.columns (unwrap_or o (zero_row_in schema (place_of c.value))).cells
    start None e = subst (λ s. CellsFit fits.table.columns (cells_from (columns_of s) (zeros_of s c.value.key))) (sym fits.declared)
        (zero_fits fits.table c.value.key fits.fits.key (λ j column at. none_lists c.value.table j fits.table column fits.declared at))
    start (Some x) e = subst (λ cs. CellsFit cs x.cells) columns (tables (place_of c.value) x e)

    after : CellsFit fits.table.columns (changed_at schema (place_of c.value) c before).cells
    after = writes_fit fits.table c.stamp c.value.writes.items before.cells (start (get t (place_of c.value)) refl) fits.fits.writes

    same_row : (a b : StampedRow) → Some a ≡ Some b → a ≡ b
    same_row a b e = cc

    split : (b : Bool) → is_place q (place_of c.value) ≡ b → cond b (Some (changed_at schema (place_of c.value) c before)) (get t q) ≡ Some row → CellsFit (columns_in schema q) row.cells
    split true at e =
        subst (λ p. CellsFit (columns_in schema p) row.cells) (sym (tells_apart exact_places q (place_of c.value) at))
        (subst (λ cs. CellsFit cs row.cells) (sym columns) (subst (λ r. CellsFit fits.table.columns r.cells) (same_row (changed_at schema (place_of c.value) c before) row e) after))
    split false at e = tables q row e

changes_kept : (schema : List Declaration) (op : Op) (n : ℕ) (es : List RowEffect) (t : StampedTables) → HasNoLists schema → AllFit schema es → TablesFit schema t
    → TablesFit schema (with_changes schema (changes_from op n es) t)
changes_kept schema op n [] t none_lists fits tables = tables
changes_kept schema op n (e ∷ es) t none_lists fits tables = changes_kept schema op (suc n) es (with_change_at schema (place_of e) c t) none_lists fits.1 (change_kept schema c t none_lists fits.0 tables)
  where
    c : Change
    c = record { value = e; stamp = record { time = op.time; site = op.site; place = n } }

pub fits_kept : (schema : List Declaration) (op : Op) (t : StampedTables) → HasNoLists schema → OpFits schema op → TablesFit schema t → TablesFit schema (applied schema op t)
fits_kept schema op t none_lists fits tables = changes_kept schema op 0 op.effects t none_lists fits.changes tables
