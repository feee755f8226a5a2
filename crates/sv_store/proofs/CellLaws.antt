-- The cells of a row from the start, column by column.
use Rattle.std.proofs.Common.{◌≡◌, ℕ, suc, ◌+◌, ◌<◌, true, false, List, [], ◌∷◌, ◌++◌, length, drop, get_or, slice_get, refl, sym, ap, subst, ◌∙◌, append_assoc, arith}
use Rattle.std.proofs.lemmas.List.{drop_more}
use Rattle.sv_value.specs.declared.values.Val.{Val}
use Rattle.sv_value.specs.declared.values.Key.{Key}
use Rattle.sv_app.specs.declared.apps.Ident.{Ident}
use Rattle.sv_app.specs.declared.schemas.Column.{Column}
use Rattle.sv_app.specs.Schema.{Declaration}
use Rattle.sv_effect.specs.declared.cells.Cell.{Cell}
use Rattle.sv_effect.specs.declared.cells.Cell.TheVariants.{Count, Last, Plain}
use Rattle.sv_effect.specs.Fits.{CountsFit}
use Rattle.sv_effect.specs.RowChange.{cell_from, cells_from, zero_of, key_values, from_key, values_from}
use Rattle.sv_store.specs.Named.{is_named, zero_cells}

pub key_first : (names : List Ident) (a : Val) (rest : List Val) (column : ℕ) (z : Val) → is_named (slice_get names 0) column ≡ true → from_key names (a ∷ rest) column z ≡ a
key_first [] a rest column z e = absurd cc
key_first (name ∷ names) a rest column z e = rw e refl

pub key_second : (names : List Ident) (a b : Val) (column : ℕ) (z : Val) → is_named (slice_get names 0) column ≡ false → is_named (slice_get names 1) column ≡ true
    → from_key names (a ∷ b ∷ []) column z ≡ b
key_second [] a b column z e f = absurd cc
key_second (name ∷ []) a b column z e f = absurd cc
key_second (name ∷ other ∷ names) a b column z e f = rw e (rw f refl)

pub key_neither : (names : List Ident) (a b : Val) (column : ℕ) (z : Val) → is_named (slice_get names 0) column ≡ false → is_named (slice_get names 1) column ≡ false
    → from_key names (a ∷ b ∷ []) column z ≡ z
key_neither [] a b column z e f = refl
key_neither (name ∷ []) a b column z e f = rw e refl
key_neither (name ∷ other ∷ []) a b column z e f = rw e (rw f refl)
key_neither (name ∷ other ∷ third ∷ names) a b column z e f = rw e (rw f refl)

pub key_other : (names : List Ident) (a : Val) (column : ℕ) (z : Val) → is_named (slice_get names 0) column ≡ false → from_key names (a ∷ []) column z ≡ z
key_other [] a column z e = refl
key_other (name ∷ []) a column z e = rw e refl
key_other (name ∷ other ∷ names) a column z e = rw e refl

-- the cells of a row that isn't kept
pub zero_cells_are : (table : Declaration) (key : Key) (k : ℕ) (columns : List Column) → zero_cells table.key key k columns ≡ cells_from columns (values_from table key k columns)
zero_cells_are table key k [] = refl
zero_cells_are table key k (column ∷ columns) = ap (λ l. cell_from column.merge (from_key table.key (key_values key) k (zero_of column.ty)) ∷ l) (zero_cells_are table key (suc k) columns)

-- one count more
counts_more : (cells : List Cell) (cell : Cell) → CountsFit cells → CountsFit (cell ∷ []) → CountsFit (cells ++ cell ∷ [])
counts_more [] cell fits fit = fit
counts_more (Count n ∷ cells) cell fits fit = (fits.0, counts_more cells cell fits.1 fit)
counts_more (Last v t ∷ cells) cell fits fit = counts_more cells cell fits fit
counts_more (Plain v ∷ cells) cell fits fit = counts_more cells cell fits fit

length_more : (cells : List Cell) (cell : Cell) → length (cells ++ cell ∷ []) ≡ length cells + 1
length_more [] cell = refl
length_more (x ∷ cells) cell = omega (arith, length_more cells cell)

-- the cells of so many columns
pub record Made (columns : List Column) (values : List Val) (number : ℕ) (cells : List Cell) : Type 0 where
  pub long : length cells ≡ number
  pub rest : cells ++ cells_from (drop number columns) (drop number values) ≡ cells_from columns values
  pub counts : CountsFit cells

pub made_more : (columns : List Column) (values : List Val) (number : ℕ) (cells new : List Cell) (column : Column) (val : Val) (cell : Cell) → number < length columns → length values ≡ length columns
    → column ≡ get_or columns number column → val ≡ get_or values number val → Made columns values number cells → cell ≡ cell_from column.merge val → CountsFit (cell ∷ []) → new ≡ cells ++ cell ∷ []
    → Made columns values (number + 1) new
made_more columns values number cells new column val cell lt full is_column is_val made is count pushed = record {
  long = ap length pushed ∙ length_more cells cell ∙ ap (λ n. n + 1) made.long;
  rest = (λ i. pushed i ++ cells_from (drop (number + 1) columns) (drop (number + 1) values))
      ∙ append_assoc cells (cell ∷ []) (cells_from (drop (number + 1) columns) (drop (number + 1) values))
      ∙ (λ i. cells ++ is i ∷ cells_from (drop (number + 1) columns) (drop (number + 1) values))
      ∙ sym (λ i. cells ++ cells_from (columns_left i) (values_left i))
      ∙ made.rest;
  counts = subst CountsFit (sym pushed) (counts_more cells cell made.counts count);
}
  where
    columns_left : drop number columns ≡ column ∷ drop (number + 1) columns
    columns_left = drop_more columns number column lt ∙ ap (λ x. x ∷ drop (number + 1) columns) (sym is_column)

    values_left : drop number values ≡ val ∷ drop (number + 1) values
    values_left = drop_more values number val (omega (arith, lt, full)) ∙ ap (λ x. x ∷ drop (number + 1) values) (sym is_val)
