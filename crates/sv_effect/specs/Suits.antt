-- Writes suit the cells that they are made to, one after the other: they are of their kinds, and no sum leaves its bounds.
use Rattle.std.specs.Prelude.{ℕ, zero, suc, ◌+ℤ◌, List, [], ◌∷◌, Option, Some, None, slice_get}
use Rattle.sv_value.specs.declared.stamps.Stamp.{Stamp}
use Rattle.sv_effect.specs.declared.cells.Cell.{Cell}
use Rattle.sv_effect.specs.declared.cells.Cell.TheVariants.{Count, Last, Plain}
use Rattle.sv_effect.specs.declared.ops.Write.{Write}
use Rattle.sv_effect.specs.declared.ops.Write.TheVariants.{Delta, Set}
use Rattle.sv_effect.specs.RowChange.{written}
use Rattle.sv_effect.specs.Fits.{IsNarrow}

abbrev pub Suits : Write → Cell → Type 0
Suits (Delta d) (Count n) = IsNarrow (n +ℤ d)
Suits (Set w) (Last v old) = Unit {0}
Suits (Set w) (Plain v) = Unit {0}
Suits _ _ = ⊥

abbrev pub SuitsAt : Write → Option Cell → Type 0
SuitsAt w None = ⊥
SuitsAt w (Some cell) = Suits w cell

-- the cells with one of them changed
abbrev pub with_cell : (Cell → Cell) → ℕ → List Cell → List Cell
with_cell f n [] = []
with_cell f zero (cell ∷ cells) = f cell ∷ cells
with_cell f (suc n) (cell ∷ cells) = cell ∷ with_cell f n cells

abbrev pub AllSuit : Stamp → List Cell → List (ℕ × Write) → Type 0
AllSuit s cells [] = Unit {0}
AllSuit s cells (w ∷ ws) = SuitsAt w.1 (slice_get cells w.0) × AllSuit s (with_cell (written s w.1) w.0 cells) ws
