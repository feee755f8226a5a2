-- What one change keeps of a row, by kind of invariant.
use Rattle.std.proofs.Common.{◌≡◌, ◌≢◌, ◌⊎◌, inl, inr, ℕ, zero, suc, ◌+◌, ◌≤◌, ◌==◌, ◌||◌, if◌then◌else◌, Bool, true, false, List, [], ◌∷◌, Option, Some, None, slice_get, refl, sym, ap, subst, ◌∙◌, arith}
use Rattle.std.specs.List.{Contains, list_any}
use Rattle.std.specs.Ordering.{is_lt, eq_by_cmp}
use Rattle.std.proofs.lemmas.Cmp.{eq_by_cmp_equiv}
use Rattle.std.proofs.lemmas.Map.Views.{tells_apart, Contains-from_any, list_any-from_Contains}
use Rattle.std.proofs.lemmas.Option.{slice_get_within}
use Rattle.sv_value.specs.declared.stamps.Stamp.{Stamp}
use Rattle.sv_value.specs.declared.values.Key.{Key}
use Rattle.sv_value.specs.declared.values.Val.{Val}
use Rattle.sv_value.specs.Orders.{stamp_cmp, text_cmp}
use Rattle.sv_value.proofs.OrderLaws.{text_total, exact_texts}
use Rattle.sv_app.specs.declared.acts.Act.{Act}
use Rattle.sv_app.specs.declared.acts.Act.TheVariants.{Insert, Update, Remove, Fresh}
use Rattle.sv_app.specs.declared.apps.Ident.{Ident}
use Rattle.sv_app.specs.declared.gots.Got.{Got}
use Rattle.sv_app.specs.declared.gots.Got.TheVariants.{Num, Text}
use Rattle.sv_app.specs.declared.schemas.Column.{Column}
use Rattle.sv_app.specs.declared.schemas.Merge.{Merge}
use Rattle.sv_app.specs.declared.schemas.Merge.TheVariants as merges
use Rattle.sv_app.specs.Schema.{Declaration}
use Rattle.sv_app.specs.Valid.{IsListed}
use Rattle.sv_app.specs.Valid as valid
use Rattle.sv_app.proofs.ListLaws.{same_some}
use Rattle.sv_effect.specs.declared.cells.Cell.{Cell}
use Rattle.sv_effect.specs.declared.cells.Cell.TheVariants.{Count, Last, Plain}
use Rattle.sv_effect.specs.declared.ops.RowEffect.{RowEffect}
use Rattle.sv_effect.specs.declared.ops.Write.{Write}
use Rattle.sv_effect.specs.declared.ops.Write.TheVariants.{Delta, Set}
use Rattle.sv_effect.specs.Acts.{is_insert}
use Rattle.sv_effect.specs.BareTables.{got_of, value_of, bare_row}
use Rattle.sv_effect.specs.Fits.{IsWrite, ChangeFits, CellsFit, ActFits, WritesAll, is_key_column, is_written}
use Rattle.sv_effect.specs.RowChange.{last_cell, written, changed, cell_from, cells_from, zero_of, key_values, from_key, values_from, zero_row}
use Rattle.sv_effect.specs.RunChanges.{effect_of}
use Rattle.sv_effect.specs.StampedTables.{StampedRow, zero_stamp}
use Rattle.sv_effect.specs.Threatened.{write_to, SetsUnlisted}
use Rattle.sv_effect.proofs.FitLaws.{CellAt, cell_at}
use Rattle.sv_effect.proofs.KeyedLaws.{value_at}
use Rattle.sv_safety.proofs.Cells.{by_write, write_fits, cell_after}
use Rattle.sv_safety.proofs.Stamps.{zero_loses}

-- ---- the zero row

pub zero_get : (table : Declaration) (key : Key) (k : ℕ) (columns : List Column) (c : ℕ) (column : Column) → slice_get columns c ≡ Some column
    → slice_get (cells_from columns (values_from table key k columns)) c ≡ Some (cell_from column.merge (from_key table.key (key_values key) (k + c) (zero_of column.ty)))
zero_get table key k [] c column e = absurd cc
zero_get table key k (x ∷ columns) zero column e =
    let number : k ≡ (k + 0) = omega arith in
    let same : x ≡ column = cc in
    λ i. Some (cell_from (same i).merge (from_key table.key (key_values key) (number i) (zero_of (same i).ty)))
zero_get table key k (x ∷ columns) (suc c) column e =
    let number : (suc k + c) ≡ (k + suc c) = omega arith in
    zero_get table key (suc k) columns c column e ∙ (λ i. Some (cell_from column.merge (from_key table.key (key_values key) (number i) (zero_of column.ty))))

outside_key : (names : List Ident) (vs : List Val) (c : ℕ) (z : Val) → is_key_column names c ≡ false → from_key names vs c z ≡ z
outside_key [] vs c z out = refl
outside_key (name ∷ names) [] c z out = refl
outside_key (name ∷ names) (v ∷ vs) c z out = split (name.num == c) refl out (outside_key names vs c z)
  where
    split : (b : Bool) → (name.num == c) ≡ b → (b || is_key_column names c) ≡ false → (is_key_column names c ≡ false → from_key names vs c z ≡ z) → (if b then v else from_key names vs c z) ≡ z
    split true is out ih = absurd cc
    split false is out ih = ih out

-- the cell of a column outside the key
pub zero_cell : (table : Declaration) (key : Key) (c : ℕ) (column : Column) → slice_get table.columns c ≡ Some column → is_key_column table.key c ≡ false
    → slice_get (zero_row table key).cells c ≡ Some (cell_from column.merge (zero_of column.ty))
zero_cell table key c column e out =
    let number : (0 + c) ≡ c = omega arith in
    zero_get table key 0 table.columns c column e
    ∙ (λ i. Some (cell_from column.merge (from_key table.key (key_values key) (number i) (zero_of column.ty))))
    ∙ ap (λ v. Some (cell_from column.merge v)) (outside_key table.key (key_values key) c (zero_of column.ty) out)

-- an insert writes each column outside the key
pub record IsWritten (ws : List (ℕ × Write)) (c : ℕ) : Type 0 where
  pub write : Write
  pub is : write_to c ws ≡ Some write

some_written : (c : ℕ) (ws : List (ℕ × Write)) → is_written c ws ≡ true → IsWritten ws c
some_written c [] e = absurd cc
some_written c (w ∷ ws) e = split (w.0 == c) refl e (some_written c ws)
  where
    split : (b : Bool) → (w.0 == c) ≡ b → (b || is_written c ws) ≡ true → (is_written c ws ≡ true → IsWritten ws c) → IsWritten (w ∷ ws) c
    split true is e ih = record { write = w.1; is = ap (λ b. if b then Some w.1 else write_to c ws) is }
    split false is e ih = record { write = (ih e).write; is = ap (λ b. if b then Some w.1 else write_to c ws) is ∙ (ih e).is }

pub insert_writes : (table : Declaration) (e : RowEffect) (c : ℕ) (column : Column) → ChangeFits table e → is_insert e.act ≡ true → slice_get table.columns c ≡ Some column
    → is_key_column table.key c ≡ false → IsWritten e.writes.items c
insert_writes table e c column fits inserts at out = some_written c e.writes.items (by e.act inserts fits.act c (slice_get_within table.columns c column at) out)
  where
    by : (act : Act) → is_insert act ≡ true → ActFits table act e.writes.items → WritesAll table e.writes.items
    by Insert is f = f
    by Fresh is f = f
    by Update is f = absurd cc
    by Remove is f = absurd cc

-- a value that is set in the zero row
pub set_zero : (s : Stamp) (merge : Merge) (z v : Val) → merge ≢ merges.NumDelta → 1 ≤ s.time → value_of (written s (Set v) (cell_from merge z)) ≡ got_of v
set_zero s merges.Plain z v apart some = refl
set_zero s merges.Fresh z v apart some = refl
set_zero s merges.Lww z v apart some = ap (λ b. value_of (last_cell (if b then (record { value = v; stamp = s }) else (record { value = z; stamp = zero_stamp })))) (zero_loses s some)
set_zero s merges.NumDelta z v apart some = absurd (apart refl)

-- ---- lists

text_listed : (got : Got) (texts : List (List ℕ)) → (IsListed got texts → ⊥) ⊎ IsListed got texts
text_listed (Num n) texts = inl (λ h. h)
text_listed (Text text) texts = by (list_any (eq_by_cmp text_cmp text) texts) refl
  where
    by : (b : Bool) → list_any (eq_by_cmp text_cmp text) texts ≡ b → (Contains texts text → ⊥) ⊎ Contains texts text
    by true e = inr (Contains-from_any (λ x y h. tells_apart exact_texts x y h) text texts e)
    by false e = inl (λ h. let yes : list_any (eq_by_cmp text_cmp text) texts ≡ true = list_any-from_Contains (eq_by_cmp_equiv text_total) text texts h in absurd cc)

set_listed : (e : RowEffect) (column : Ident) (texts : List (List ℕ)) (v : Val) → (SetsUnlisted (effect_of e) column texts → ⊥) → write_to column.num e.writes.items ≡ Some (Set v) → IsListed (got_of v) texts
set_listed e column texts v free is = by (text_listed (got_of v) texts)
  where
    by : (IsListed (got_of v) texts → ⊥) ⊎ IsListed (got_of v) texts → IsListed (got_of v) texts
    by (inl never) = absurd (free (record { val = v; set = is; unlisted = never }))
    by (inr there) = there

pub list_found : (table : Declaration) (column : Ident) (texts : List (List ℕ)) (col : Column) (annotated : Bool) (s : Stamp) (e : RowEffect) (row : StampedRow)
    → slice_get table.columns column.num ≡ Some col → ChangeFits table e → CellsFit table.columns row.cells → (SetsUnlisted (effect_of e) column texts → ⊥)
    → IsListed (valid.value_of (bare_row row) column) texts → IsListed (valid.value_of (bare_row (changed annotated s e row)) column) texts
list_found table column texts col annotated s e row declared fits cells free before =
    subst (λ g. IsListed g texts) (sym (value_at (changed annotated s e row) column (by_write s (write_to column.num e.writes.items) at.cell) (cell_after annotated s e row column.num at.cell fits.order at.is)))
    (by (write_to column.num e.writes.items) refl at.cell (subst (λ g. IsListed g texts) (value_at row column at.cell at.is) before))
  where
    at : CellAt col row.cells column.num
    at = cell_at table.columns row.cells column.num col cells declared

    by : (w : Option Write) → write_to column.num e.writes.items ≡ w → (cell : Cell) → IsListed (value_of cell) texts → IsListed (value_of (by_write s w cell)) texts
    by None is cell old = old
    by (Some (Delta d)) is (Count n) old = old
    by (Some (Delta d)) is (Last v t) old = old
    by (Some (Delta d)) is (Plain v) old = old
    by (Some (Set v)) is (Count n) old = old
    by (Some (Set v)) is (Last x t) old = either (is_lt (stamp_cmp t s))
      where
        either : (b : Bool) → IsListed (value_of (last_cell (if b then (record { value = v; stamp = s }) else (record { value = x; stamp = t })))) texts
        either true = set_listed e column texts v free is
        either false = old
    by (Some (Set v)) is (Plain x) old = set_listed e column texts v free is

pub list_made : (table : Declaration) (column : Ident) (texts : List (List ℕ)) (col : Column) (annotated : Bool) (s : Stamp) (e : RowEffect)
    → slice_get table.columns column.num ≡ Some col → is_key_column table.key column.num ≡ false → col.merge ≢ merges.NumDelta → ChangeFits table e → is_insert e.act ≡ true → 1 ≤ s.time
    → (SetsUnlisted (effect_of e) column texts → ⊥) → IsListed (valid.value_of (bare_row (changed annotated s e (zero_row table e.key))) column) texts
list_made table column texts col annotated s e declared out apart fits inserts some free =
    subst (λ g. IsListed g texts) (sym (value_at (changed annotated s e (zero_row table e.key)) column (by_write s (write_to column.num e.writes.items) zero_of_it)
    (cell_after annotated s e (zero_row table e.key) column.num zero_of_it fits.order (zero_cell table e.key column.num col declared out))))
    (subst (λ w. IsListed (value_of (by_write s w zero_of_it)) texts) (sym wrote.is) (by wrote.write wrote.is))
  where
    zero_of_it : Cell
    zero_of_it = cell_from col.merge (zero_of col.ty)

    wrote : IsWritten e.writes.items column.num
    wrote = insert_writes table e column.num col fits inserts declared out

    by : (w : Write) → write_to column.num e.writes.items ≡ Some w → IsListed (value_of (written s w zero_of_it)) texts
    by (Delta d) is =
        let fit : IsWrite table column.num (Delta d) = write_fits table column.num e.writes.items (Delta d) fits.writes is in
        absurd (apart (ap (λ (c : Column). c.merge) (same_some (slice_get table.columns column.num) col fit.column declared fit.declared) ∙ fit.fits))
    by (Set v) is = subst (λ g. IsListed g texts) (sym (set_zero s col.merge (zero_of col.ty) v apart some)) (set_listed e column texts v free is)
