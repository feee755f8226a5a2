-- Writes that fit their table suit the cells of a row of it, if the counts that they leave are in their bounds.
use Rattle.std.proofs.Common.{◌≡◌, ℕ, zero, suc, ◌+◌, ◌<◌, ◌==◌, if◌then◌else◌, Bool, true, false, List, [], ◌∷◌, Some, slice_get, refl, sym, ap, ◌∙◌, arith, subst}
use Rattle.std.specs.Prelude.{◌+ℤ◌, ℤ}
use Rattle.std.specs.Option.{option_map}
use Rattle.std.specs.Ordering.{is_lt}
use Rattle.sv_value.specs.Orders.{stamp_cmp}
use Rattle.sv_value.specs.declared.stamps.Stamp.{Stamp}
use Rattle.sv_app.specs.declared.schemas.Column.{Column}
use Rattle.sv_app.specs.declared.schemas.Merge.TheVariants as merges
use Rattle.sv_app.specs.Kinds.{is_unmerged}
use Rattle.sv_app.specs.Schema.{Declaration}
use Rattle.sv_effect.specs.declared.cells.Cell.{Cell}
use Rattle.sv_effect.specs.declared.cells.Cell.TheVariants.{Count, Last, Plain}
use Rattle.sv_effect.specs.declared.ops.Write.{Write}
use Rattle.sv_effect.specs.declared.ops.Write.TheVariants.{Delta, Set}
use Rattle.sv_effect.specs.RowChange.{last_cell, written, made, each}
use Rattle.sv_effect.specs.Fits.{WriteFits, IsWrite, AreWrites, AllAbove, Ascending, columns_written, CellFits, CellsFit, IsNarrow, CountsFit}
use Rattle.sv_effect.specs.Suits.{Suits, SuitsAt, with_cell, AllSuit}
use Rattle.sv_app.proofs.TestLaws.{same_test, other_test, test_same}
use Rattle.sv_effect.proofs.WriteLaws.{each_with}

-- the cell of a column
pub record CellAt (column : Column) (cells : List Cell) (n : ℕ) : Type 0 where
  pub cell : Cell
  pub is : slice_get cells n ≡ Some cell
  pub fits : CellFits column cell

same_column : (a b : Column) → Some a ≡ Some b → a ≡ b
same_column a b e = cc

same_cell : (a b : Cell) → Some a ≡ Some b → a ≡ b
same_cell a b e = cc

pub cell_at : (columns : List Column) (cells : List Cell) (n : ℕ) (column : Column) → CellsFit columns cells → slice_get columns n ≡ Some column → CellAt column cells n
cell_at [] cells n column fits e = absurd cc
cell_at (x ∷ columns) [] n column fits e = absurd fits
cell_at (x ∷ columns) (cell ∷ cells) zero column fits e = record { cell = cell; is = refl; fits = subst (λ c. CellFits c cell) (same_column x column e) fits.0 }
cell_at (x ∷ columns) (cell ∷ cells) (suc n) column fits e = let at : CellAt column cells n = cell_at columns cells n column fits.1 e in record { cell = at.cell; is = at.is; fits = at.fits }

-- a write keeps the kind of its cell
written_fits : (column : Column) (s : Stamp) (w : Write) (cell : Cell) → WriteFits column w → CellFits column cell → CellFits column (written s w cell)
written_fits column s (Delta d) (Count n) w fits = fits
written_fits column s (Delta d) (Last v t) w fits = fits
written_fits column s (Delta d) (Plain v) w fits = fits
written_fits column s (Set x) (Count n) w fits = fits
written_fits column s (Set x) (Last v t) w fits = either (is_lt (stamp_cmp t s))
  where
    either : (b : Bool) → CellFits column (last_cell (if b then (record { value = x; stamp = s }) else (record { value = v; stamp = t })))
    either true = (fits.0, w.1)
    either false = fits
written_fits column s (Set x) (Plain v) w fits = (fits.0, w.1)

with_cell_fits : (columns : List Column) (cells : List Cell) (n : ℕ) (column : Column) (s : Stamp) (w : Write) → CellsFit columns cells → slice_get columns n ≡ Some column
    → WriteFits column w → CellsFit columns (with_cell (written s w) n cells)
with_cell_fits [] cells n column s w fits e wf = absurd cc
with_cell_fits (x ∷ columns) [] n column s w fits e wf = absurd fits
with_cell_fits (x ∷ columns) (cell ∷ cells) zero column s w fits e wf = (written_fits x s w cell (subst (λ c. WriteFits c w) (sym (same_column x column e)) wf) fits.0, fits.1)
with_cell_fits (x ∷ columns) (cell ∷ cells) (suc n) column s w fits e wf = (fits.0, with_cell_fits columns cells n column s w fits.1 e wf)

-- a count of the cells is in its bounds
narrow_at : (cells : List Cell) (n : ℕ) (k : ℤ) → CountsFit cells → slice_get cells n ≡ Some (Count k) → IsNarrow k
narrow_at [] n k fits e = absurd cc
narrow_at (cell ∷ cells) zero k fits e = subst FirstNarrow (same_cell cell (Count k) e) (first cell fits)
  where
    FirstNarrow : Cell → Type 0
    FirstNarrow (Count n) = IsNarrow n
    FirstNarrow (Last v s) = Unit {0}
    FirstNarrow (Plain v) = Unit {0}

    first : (c : Cell) → CountsFit (c ∷ cells) → FirstNarrow c
    first (Count n) fits = fits.0
    first (Last v s) fits = tt
    first (Plain v) fits = tt
narrow_at (Count x ∷ cells) (suc n) k fits e = narrow_at cells n k fits.1 e
narrow_at (Last v s ∷ cells) (suc n) k fits e = narrow_at cells n k fits e
narrow_at (Plain v ∷ cells) (suc n) k fits e = narrow_at cells n k fits e

pub get_each : (f : ℕ → Cell → Cell) (k : ℕ) (cells : List Cell) (n : ℕ) → slice_get (each f k cells) n ≡ option_map (f (k + n)) (slice_get cells n)
get_each f k [] n = refl
get_each f k (x ∷ cells) zero = let number : k ≡ (k + 0) = omega arith in λ i. Some (f (number i) x)
get_each f k (x ∷ cells) (suc n) = let number : (suc k + n) ≡ (k + suc n) = omega arith in get_each f (suc k) cells n ∙ (λ i. option_map (f (number i)) (slice_get cells n))

-- later columns' writes are none to this one
pub made_past : (s : Stamp) (n : ℕ) (ws : List (ℕ × Write)) (cell : Cell) → AllAbove n (columns_written ws) → made s n ws cell ≡ cell
made_past s n [] cell above = refl
made_past s n (w ∷ ws) cell above =
    let lt : n < w.0 = above.0 in
    rw (other_test w.0 n (λ e. absurd (omega (arith, lt, e)))) (made_past s n ws cell above.1)

made_once : (s : Stamp) (w : ℕ × Write) (ws : List (ℕ × Write)) (cell : Cell) → AllAbove w.0 (columns_written ws) → made s w.0 (w ∷ ws) cell ≡ written s w.1 cell
made_once s w ws cell above = rw (same_test w.0 w.0 refl) (made_past s w.0 ws (written s w.1 cell) above)

suits_one : (column : Column) (s : Stamp) (w : Write) (cell : Cell) → WriteFits column w → CellFits column cell → ((k : ℤ) → written s w cell ≡ Count k → IsNarrow k) → Suits w cell
suits_one column s (Delta d) (Count n) w fits narrow = narrow (n +ℤ d) refl
suits_one column s (Delta d) (Last v t) w fits narrow = absurd (let e : merges.NumDelta ≡ merges.Lww = sym w ∙ fits.0 in cc)
suits_one column s (Delta d) (Plain v) w fits narrow = absurd (let e : is_unmerged merges.NumDelta ≡ true = ap is_unmerged (sym w) ∙ fits.0 in cc)
suits_one column s (Set x) (Count n) w fits narrow = absurd (w.0 fits)
suits_one column s (Set x) (Last v t) w fits narrow = tt
suits_one column s (Set x) (Plain v) w fits narrow = tt

pub fit_suits : (table : Declaration) (s : Stamp) (ws : List (ℕ × Write)) (cells : List Cell) → CellsFit table.columns cells → AreWrites table ws → Ascending (columns_written ws)
    → CountsFit (each (λ c. made s c ws) 0 cells) → AllSuit s cells ws
fit_suits table s [] cells fits writes order counts = tt
fit_suits table s (w ∷ ws) cells fits writes order counts = (
  subst (λ o. SuitsAt w.1 o) (sym at.is) (suits_one write.column s w.1 at.cell write.fits at.fits narrow),
  fit_suits table s ws (with_cell (written s w.1) w.0 cells) (with_cell_fits table.columns cells w.0 write.column s w.1 fits write.declared write.fits) writes.1 order.1
      (subst CountsFit (sym (each_with s w.0 w.1 ws 0 w.0 cells (omega arith))) counts),
)
  where
    write : IsWrite table w.0 w.1
    write = writes.0

    at : CellAt write.column cells w.0
    at = cell_at table.columns cells w.0 write.column fits write.declared

    number : (0 + w.0) ≡ w.0
    number = omega arith

    narrow : (k : ℤ) → written s w.1 at.cell ≡ Count k → IsNarrow k
    narrow k e = narrow_at (each (λ c. made s c (w ∷ ws)) 0 cells) w.0 k counts
        (get_each (λ c. made s c (w ∷ ws)) 0 cells w.0 ∙ ap (option_map (made s (0 + w.0) (w ∷ ws))) at.is ∙ (λ i. Some (made s (number i) (w ∷ ws) at.cell)) ∙ ap (λ c. Some c) (made_once s w ws at.cell order.0 ∙ e))

-- a column's writes keep the kind of its cell
made_fits : (table : Declaration) (s : Stamp) (number : ℕ) (column : Column) (ws : List (ℕ × Write)) (cell : Cell) → slice_get table.columns number ≡ Some column → AreWrites table ws
    → CellFits column cell → CellFits column (made s number ws cell)
made_fits table s number column [] cell declared writes fits = fits
made_fits table s number column (w ∷ ws) cell declared writes fits = split (w.0 == number) refl (λ c f. made_fits table s number column ws c declared writes.1 f)
  where
    write : IsWrite table w.0 w.1
    write = writes.0

    split : (b : Bool) → (w.0 == number) ≡ b → ((c : Cell) → CellFits column c → CellFits column (made s number ws c)) → CellFits column (made s number ws (if b then written s w.1 cell else cell))
    split false is ih = ih cell fits
    split true is ih = ih (written s w.1 cell) (written_fits column s w.1 cell (subst (λ c. WriteFits c w.1) same write.fits) fits)
      where
        same : write.column ≡ column
        same = same_column write.column column (sym write.declared ∙ ap (slice_get table.columns) (test_same w.0 number is) ∙ declared)

each_fits : (table : Declaration) (s : Stamp) (ws : List (ℕ × Write)) (k : ℕ) (columns : List Column) (cells : List Cell) → AreWrites table ws
    → ((j : ℕ) (column : Column) → slice_get columns j ≡ Some column → slice_get table.columns (k + j) ≡ Some column) → CellsFit columns cells
    → CellsFit columns (each (λ c. made s c ws) k cells)
each_fits table s ws k [] [] writes at fits = tt
each_fits table s ws k [] (cell ∷ cells) writes at fits = absurd fits
each_fits table s ws k (column ∷ columns) [] writes at fits = absurd fits
each_fits table s ws k (column ∷ columns) (cell ∷ cells) writes at fits = (
  made_fits table s k column ws cell here writes fits.0,
  each_fits table s ws (suc k) columns cells writes rest fits.1,
)
  where
    here : slice_get table.columns k ≡ Some column
    here = let n : k ≡ (k + 0) = omega arith in ap (slice_get table.columns) n ∙ at 0 column refl

    rest : (j : ℕ) (c : Column) → slice_get columns j ≡ Some c → slice_get table.columns (suc k + j) ≡ Some c
    rest j c e = let n : (suc k + j) ≡ (k + suc j) = omega arith in ap (slice_get table.columns) n ∙ at (suc j) c e

-- a row that fits its table fits it after the writes
pub writes_fit : (table : Declaration) (s : Stamp) (ws : List (ℕ × Write)) (cells : List Cell) → CellsFit table.columns cells → AreWrites table ws
    → CellsFit table.columns (each (λ c. made s c ws) 0 cells)
writes_fit table s ws cells fits writes = each_fits table s ws 0 table.columns cells writes (λ j c e. let n : (0 + j) ≡ j = omega arith in ap (slice_get table.columns) n ∙ e) fits

pub after_fits : (table : Declaration) (s : Stamp) (ws slice : List (ℕ × Write)) (cells after : List Cell) → CellsFit table.columns cells → AreWrites table ws → slice ≡ ws
    → after ≡ each (λ c. made s c slice) 0 cells → CellsFit table.columns after
after_fits table s ws slice cells after fits writes same e =
    subst (CellsFit table.columns) (sym (e ∙ ap (λ l. each (λ c. made s c l) 0 cells) same)) (writes_fit table s ws cells fits writes)
