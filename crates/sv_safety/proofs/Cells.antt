-- The cell of a column after a change.
use Rattle.std.proofs.Common.{◌≡◌, ℕ, ◌+◌, ◌==◌, if◌then◌else◌, Bool, true, false, List, [], ◌∷◌, Option, Some, None, slice_get, refl, ap, subst, ◌∙◌, arith}
use Rattle.std.specs.Option.{option_map}
use Rattle.sv_value.specs.declared.stamps.Stamp.{Stamp}
use Rattle.sv_app.specs.Schema.{Declaration}
use Rattle.sv_app.proofs.TestLaws.{test_same}
use Rattle.sv_effect.specs.declared.cells.Cell.{Cell}
use Rattle.sv_effect.specs.declared.ops.RowEffect.{RowEffect}
use Rattle.sv_effect.specs.declared.ops.Write.{Write}
use Rattle.sv_effect.specs.Fits.{IsWrite, AreWrites, AllAbove, Ascending, columns_written}
use Rattle.sv_effect.specs.RowChange.{written, made, changed}
use Rattle.sv_effect.specs.StampedTables.{StampedRow}
use Rattle.sv_effect.specs.Threatened.{write_to}
use Rattle.sv_effect.proofs.FitLaws.{get_each, made_past}

abbrev pub by_write : Stamp → Option Write → Cell → Cell
by_write s None cell = cell
by_write s (Some w) cell = written s w cell

-- each column is written at most once
pub made_is : (s : Stamp) (c : ℕ) (ws : List (ℕ × Write)) (cell : Cell) → Ascending (columns_written ws) → made s c ws cell ≡ by_write s (write_to c ws) cell
made_is s c [] cell order = refl
made_is s c (w ∷ ws) cell order = split (w.0 == c) refl (made_is s c ws cell order.1)
  where
    split : (b : Bool) → (w.0 == c) ≡ b → made s c ws cell ≡ by_write s (write_to c ws) cell
        → made s c ws (if b then written s w.1 cell else cell) ≡ by_write s (if b then Some w.1 else write_to c ws) cell
    split false is ih = ih
    split true is ih = made_past s c ws (written s w.1 cell) (subst (λ k. AllAbove k (columns_written ws)) (test_same w.0 c is) order.0)

-- the write to a column fits the table
pub write_fits : (table : Declaration) (c : ℕ) (ws : List (ℕ × Write)) (w : Write) → AreWrites table ws → write_to c ws ≡ Some w → IsWrite table c w
write_fits table c [] w fits e = absurd cc
write_fits table c (x ∷ ws) w fits e = split (x.0 == c) refl e (write_fits table c ws w fits.1)
  where
    split : (b : Bool) → (x.0 == c) ≡ b → (if b then Some x.1 else write_to c ws) ≡ Some w → (write_to c ws ≡ Some w → IsWrite table c w) → IsWrite table c w
    split false is e ih = ih e
    split true is e ih = let same : x.1 ≡ w = cc in subst (λ k. IsWrite table k w) (test_same x.0 c is) (subst (IsWrite table x.0) same fits.0)

pub cell_after : (annotated : Bool) (s : Stamp) (e : RowEffect) (row : StampedRow) (n : ℕ) (cell : Cell) → Ascending (columns_written e.writes.items) → slice_get row.cells n ≡ Some cell
    → slice_get (changed annotated s e row).cells n ≡ Some (by_write s (write_to n e.writes.items) cell)
cell_after annotated s e row n cell order at =
    let number : (0 + n) ≡ n = omega arith in
    get_each (λ c. made s c e.writes.items) 0 row.cells n ∙ ap (option_map (made s (0 + n) e.writes.items)) at ∙ (λ i. Some (made s (number i) e.writes.items cell))
    ∙ ap (λ c. Some c) (made_is s n e.writes.items cell order)
