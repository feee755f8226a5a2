-- A value that a change sets in a newer operation, and no later change sets again, stands in its row behind the operation.
use Rattle.std.proofs.Common.{◌≡◌, ◌≢◌, ◌⊎◌, inl, inr, ℕ, zero, suc, ◌<◌, ◌≤◌, if◌then◌else◌, Bool, true, false, List, length, Option, Some, None, slice_get, refl, sym, ap, subst, ◌∙◌, arith}
use Rattle.std.specs.Prelude.{ℤ}
use Rattle.std.specs.FinMap.{get}
use Rattle.std.proofs.lemmas.Option.{slice_get_within}
use Rattle.sv_value.specs.declared.values.Val.{Val}
use Rattle.sv_app.specs.declared.apps.Ident.{Ident}
use Rattle.sv_app.specs.declared.places.Place.{Place}
use Rattle.sv_app.specs.declared.schemas.Column.{Column}
use Rattle.sv_app.specs.declared.schemas.Merge.TheVariants as merges
use Rattle.sv_app.specs.Schema.{Declaration}
use Rattle.sv_app.specs.Valid as valid
use Rattle.sv_app.proofs.ListLaws.{same_some}
use Rattle.sv_effect.specs.declared.cells.Cell.{Cell}
use Rattle.sv_effect.specs.declared.cells.Cell.TheVariants.{Count, Last, Plain}
use Rattle.sv_effect.specs.declared.ops.Op.{Op}
use Rattle.sv_effect.specs.declared.ops.RowEffect.{RowEffect}
use Rattle.sv_effect.specs.declared.ops.Write.{Write}
use Rattle.sv_effect.specs.declared.ops.Write.TheVariants.{Delta, Set}
use Rattle.sv_effect.specs.Acts.{is_insert}
use Rattle.sv_effect.specs.Applied.{place_of, applied}
use Rattle.sv_effect.specs.BareTables.{got_of, value_of, bare_row}
use Rattle.sv_effect.specs.Fits.{IsWrite, ChangeFits, CellFits, CellsFit, is_key_column}
use Rattle.sv_effect.specs.Newer.{IsNewer}
use Rattle.sv_effect.specs.RowChange.{last_cell, written, changed, cell_from, zero_of, zero_row}
use Rattle.sv_effect.specs.StampedTables.{StampedRow, StampedTables}
use Rattle.sv_effect.specs.Threatened.{write_to, is_set}
use Rattle.sv_effect.proofs.FitLaws.{CellAt, cell_at}
use Rattle.sv_effect.proofs.KeyedLaws.{value_at}
use Rattle.sv_safety.proofs.Cells.{by_write, write_fits, cell_after}
use Rattle.sv_safety.proofs.RowSteps.{zero_cell, IsWritten, insert_writes, set_zero}
use Rattle.sv_safety.proofs.Stamps.{stamp_of, Beaten, beaten_more, beaten_written, beaten_zero, beaten_earlier}
use Rattle.sv_safety.proofs.TableWalk.{Base, RowStep, table_walk}

module _ (schema : List Declaration) (op : Op) (t : StampedTables) (b : Base schema op t) (below : IsNewer op t) (table : ℕ) (d : Declaration) (declared : slice_get schema table ≡ Some d)
    (column : Ident) (col : Column) (col_is : slice_get d.columns column.num ≡ Some col) (apart : col.merge ≢ merges.NumDelta) (out : is_key_column d.key column.num ≡ false)
    (n : ℕ) (e : RowEffect) (v : Val) (at : slice_get op.effects n ≡ Some e) (set : write_to column.num e.writes.items ≡ Some (Set v))
    (last : (k : ℕ) (x : RowEffect) → n < k → slice_get op.effects k ≡ Some x → place_of x ≡ place_of e → is_set (write_to column.num x.writes.items) ≡ false) where
  record IsLast (m : ℕ) (q : Place) (row : StampedRow) : Type 0 where
    under : (cell : Cell) → slice_get row.cells column.num ≡ Some cell → Beaten op m cell
    value : q ≡ place_of e → suc n ≤ m → valid.value_of (bare_row row) column ≡ got_of v

  no_delta : (x : RowEffect) (k : ℤ) → ChangeFits d x → write_to column.num x.writes.items ≡ Some (Delta k) → ⊥
  no_delta x k fits is = let fit : IsWrite d column.num (Delta k) = write_fits d column.num x.writes.items (Delta k) fits.writes is in
      apart (ap (λ (c : Column). c.merge) (same_some (slice_get d.columns column.num) col fit.column col_is fit.declared) ∙ fit.fits)

  order_of : (a c : ℕ) → (a < c) ⊎ ((a ≡ c) ⊎ (c < a))
  order_of zero zero = inr (inl refl)
  order_of zero (suc c) = inl (omega arith)
  order_of (suc a) zero = inr (inr (omega arith))
  order_of (suc a) (suc c) = by (order_of a c)
    where
      by : (a < c) ⊎ ((a ≡ c) ⊎ (c < a)) → (suc a < suc c) ⊎ ((suc a ≡ suc c) ⊎ (suc c < suc a))
      by (inl less) = inl (omega (arith, less))
      by (inr (inl same)) = inr (inl (ap suc same))
      by (inr (inr more)) = inr (inr (omega (arith, more)))

  step : (m : ℕ) (x : RowEffect) → slice_get op.effects m ≡ Some x → ChangeFits d x → x.table ≡ table → RowStep d op IsLast m x
  step m x there fits here = record {
    found = λ a row finds cells old. record { under = found_under a row cells old.under; value = λ same le. found_value a row cells old same le (order_of n m) };
    made = λ a inserts. record { under = made_under a; value = λ same le. made_value a inserts same le (order_of n m) };
  }
    where
      is_e : n ≡ m → x ≡ e
      is_e same = same_some (slice_get op.effects m) x e there (ap (slice_get op.effects) (sym same) ∙ at)

      set_here : n ≡ m → write_to column.num x.writes.items ≡ Some (Set v)
      set_here same = ap (λ (y : RowEffect). write_to column.num y.writes.items) (is_e same) ∙ set

      found_under : (a : Bool) (row : StampedRow) → CellsFit d.columns row.cells → ((cell : Cell) → slice_get row.cells column.num ≡ Some cell → Beaten op m cell)
          → (cell : Cell) → slice_get (changed a (stamp_of op m) x row).cells column.num ≡ Some cell → Beaten op (suc m) cell
      found_under a row cells under cell is =
          let c : CellAt col row.cells column.num = cell_at d.columns row.cells column.num col cells col_is in
          subst (Beaten op (suc m)) (same_some (slice_get (changed a (stamp_of op m) x row).cells column.num) (by_write (stamp_of op m) (write_to column.num x.writes.items) c.cell) cell (cell_after a (stamp_of op m) x row column.num c.cell fits.order c.is) is)
          (beaten_written op m (write_to column.num x.writes.items) c.cell (under c.cell c.is))

      made_under : (a : Bool) (cell : Cell) → slice_get (changed a (stamp_of op m) x (zero_row d x.key)).cells column.num ≡ Some cell → Beaten op (suc m) cell
      made_under a cell is =
          let z : Cell = cell_from col.merge (zero_of col.ty) in
          subst (Beaten op (suc m)) (same_some (slice_get (changed a (stamp_of op m) x (zero_row d x.key)).cells column.num) (by_write (stamp_of op m) (write_to column.num x.writes.items) z) cell
          (cell_after a (stamp_of op m) x (zero_row d x.key) column.num z fits.order (zero_cell d x.key column.num col col_is out)) is)
          (beaten_written op m (write_to column.num x.writes.items) z (beaten_zero op m col.merge (zero_of col.ty) b.fits.time))

      found_value : (a : Bool) (row : StampedRow) → CellsFit d.columns row.cells → IsLast m (place_of x) row → place_of x ≡ place_of e → suc n ≤ suc m → (n < m) ⊎ ((n ≡ m) ⊎ (m < n))
          → valid.value_of (bare_row (changed a (stamp_of op m) x row)) column ≡ got_of v
      found_value a row cells old same le which =
          value_at (changed a (stamp_of op m) x row) column (by_write (stamp_of op m) (write_to column.num x.writes.items) c.cell) (cell_after a (stamp_of op m) x row column.num c.cell fits.order c.is) ∙ by which
        where
          c : CellAt col row.cells column.num
          c = cell_at d.columns row.cells column.num col cells col_is

          wins : (cell : Cell) → CellFits col cell → Beaten op m cell → value_of (written (stamp_of op m) (Set v) cell) ≡ got_of v
          wins (Count k) f u = absurd (apart f)
          wins (Last y s) f u = ap (λ r. value_of (last_cell (if r then (record { value = v; stamp = stamp_of op m }) else (record { value = y; stamp = s })))) (u m (omega arith))
          wins (Plain y) f u = refl

          stays : (w : Option Write) → write_to column.num x.writes.items ≡ w → is_set w ≡ false → value_of (by_write (stamp_of op m) w c.cell) ≡ value_of c.cell
          stays None is unset = refl
          stays (Some (Delta k)) is unset = absurd (no_delta x k fits is)
          stays (Some (Set y)) is unset = absurd cc

          by : (n < m) ⊎ ((n ≡ m) ⊎ (m < n)) → value_of (by_write (stamp_of op m) (write_to column.num x.writes.items) c.cell) ≡ got_of v
          by (inl less) = stays (write_to column.num x.writes.items) refl (last m x less there same) ∙ sym (value_at row column c.cell c.is) ∙ old.value same (omega (arith, less))
          by (inr (inl now)) = ap (λ w. value_of (by_write (stamp_of op m) w c.cell)) (set_here now) ∙ wins c.cell c.fits (old.under c.cell c.is)
          by (inr (inr more)) = absurd (omega (arith, le, more))

      made_value : (a : Bool) → is_insert x.act ≡ true → place_of x ≡ place_of e → suc n ≤ suc m → (n < m) ⊎ ((n ≡ m) ⊎ (m < n)) → valid.value_of (bare_row (changed a (stamp_of op m) x (zero_row d x.key))) column ≡ got_of v
      made_value a inserts same le which =
          value_at (changed a (stamp_of op m) x (zero_row d x.key)) column (by_write (stamp_of op m) (write_to column.num x.writes.items) cell)
          (cell_after a (stamp_of op m) x (zero_row d x.key) column.num cell fits.order (zero_cell d x.key column.num col col_is out)) ∙ by which
        where
          cell : Cell
          cell = cell_from col.merge (zero_of col.ty)

          wrote : IsWritten x.writes.items column.num
          wrote = insert_writes d x column.num col fits inserts col_is out

          never : (w : Write) → write_to column.num x.writes.items ≡ Some w → is_set (write_to column.num x.writes.items) ≡ false → ⊥
          never (Delta k) is unset = no_delta x k fits is
          never (Set y) is unset = let both : true ≡ false = ap is_set (sym is) ∙ unset in cc

          by : (n < m) ⊎ ((n ≡ m) ⊎ (m < n)) → value_of (by_write (stamp_of op m) (write_to column.num x.writes.items) cell) ≡ got_of v
          by (inl less) = absurd (never wrote.write wrote.is (last m x less there same))
          by (inr (inl now)) = ap (λ w. value_of (by_write (stamp_of op m) w cell)) (set_here now) ∙ set_zero (stamp_of op m) col.merge (zero_of col.ty) v apart b.fits.time
          by (inr (inr more)) = absurd (omega (arith, le, more))

  others : (m : ℕ) (x : RowEffect) (q : Place) (row : StampedRow) → slice_get op.effects m ≡ Some x → (q ≡ place_of x → ⊥) → q.table ≡ table → IsLast m q row → IsLast (suc m) q row
  others m x q row there differs here old = record { under = λ cell is. beaten_more op m cell (old.under cell is); value = λ same le. by same le (order_of n m) }
    where
      by : q ≡ place_of e → suc n ≤ suc m → (n < m) ⊎ ((n ≡ m) ⊎ (m < n)) → valid.value_of (bare_row row) column ≡ got_of v
      by same le (inl less) = old.value same (omega (arith, less))
      by same le (inr (inl now)) = absurd (differs (same ∙ ap place_of (sym (same_some (slice_get op.effects m) x e there (ap (slice_get op.effects) (sym now) ∙ at)))))
      by same le (inr (inr more)) = absurd (omega (arith, le, more))

  pub last_value : e.table ≡ table → (row : StampedRow) → get (applied schema op t) (place_of e) ≡ Some row → valid.value_of (bare_row row) column ≡ got_of v
  last_value here row is = (table_walk schema op t b table d IsLast declared step others
      (λ q r at there. record { under = λ cell is. beaten_earlier op cell ((below q r there).cells column.num cell is); value = λ same le. absurd (omega (arith, le)) }) (place_of e) row here is).value refl within
    where
      within : suc n ≤ length op.effects
      within = slice_get_within op.effects n e at
