-- What one change keeps of a row: checks.
use Rattle.std.proofs.Common.{◌≡◌, ◌≢◌, ◌⊎◌, inl, inr, ℕ, ◌≤◌, if◌then◌else◌, Bool, true, false, List, Option, Some, None, slice_get, refl, sym, ap, subst, ◌∙◌, arith, zero, suc, [], ◌∷◌}
use Rattle.std.specs.Prelude.{ℤ, pos, ◌+ℤ◌, ◌-ℤ◌, ◌≤ℤ◌, int_le, map, unwrap_or}
use Rattle.std.specs.List.{All}
use Rattle.std.specs.Ordering.{is_lt}
use Rattle.std.proofs.lemmas.Int.{ints}
use Rattle.sv_value.specs.declared.stamps.Stamp.{Stamp}
use Rattle.sv_value.specs.declared.values.Val.{Val}
use Rattle.sv_value.specs.declared.values.Val.TheVariants.{Int, Text as IsText}
use Rattle.sv_value.specs.Orders.{stamp_cmp}
use Rattle.sv_app.specs.declared.apps.Ident.{Ident}
use Rattle.sv_app.specs.declared.gots.Got.TheVariants.{Num}
use Rattle.sv_app.specs.declared.schemas.Check.{Check}
use Rattle.sv_app.specs.declared.schemas.Column.{Column}
use Rattle.sv_app.specs.declared.schemas.Merge.{Merge}
use Rattle.sv_app.specs.declared.schemas.Merge.TheVariants as merges
use Rattle.sv_app.specs.declared.schemas.Ty.{Ty}
use Rattle.sv_app.specs.declared.schemas.Ty.TheVariants as types
use Rattle.sv_app.specs.Kinds.{is_unmerged}
use Rattle.sv_app.specs.Satisfiable.{checks_of, IsMet}
use Rattle.sv_app.specs.Satisfiable as sat
use Rattle.sv_app.specs.Schema.{Declaration}
use Rattle.sv_app.specs.Valid.{side_of, Meets}
use Rattle.sv_app.specs.Valid as valid
use Rattle.sv_app.proofs.ListLaws.{get_at, same_some}
use Rattle.sv_effect.specs.declared.cells.Cell.{Cell}
use Rattle.sv_effect.specs.declared.cells.Cell.TheVariants.{Count, Last, Plain}
use Rattle.sv_effect.specs.declared.ops.RowEffect.{RowEffect}
use Rattle.sv_effect.specs.declared.ops.Write.{Write}
use Rattle.sv_effect.specs.declared.ops.Write.TheVariants.{Delta, Set}
use Rattle.sv_effect.specs.Acts.{is_insert, is_draw}
use Rattle.sv_effect.specs.BareTables.{got_of, value_of, bare_row}
use Rattle.sv_effect.specs.Fits.{IsWrite, WriteFits, ChangeFits, CellFits, CellsFit, is_key_column}
use Rattle.sv_effect.specs.RowChange.{last_cell, written, changed, cell_from, zero_of, zero_row}
use Rattle.sv_effect.specs.RunChanges.{effect_of, merge_of}
use Rattle.sv_effect.specs.StampedTables.{StampedRow, zero_stamp}
use Rattle.sv_effect.specs.TablesOfCut.{number_in}
use Rattle.sv_effect.specs.Threatened.{write_to, number_after, numbers_after, BreaksRow, BreaksZeros}
use Rattle.sv_effect.proofs.FitLaws.{CellAt, cell_at}
use Rattle.sv_effect.proofs.KeyedLaws.{value_at}
use Rattle.sv_safety.proofs.Cells.{by_write, write_fits, cell_after}
use Rattle.sv_safety.proofs.RowSteps.{zero_cell, IsWritten, insert_writes}
use Rattle.sv_safety.proofs.Stamps.{zero_loses}

-- the numbers of a row
abbrev pub numbers_of : StampedRow → ℕ → ℤ
numbers_of row c = valid.number_of (unwrap_or (slice_get (map value_of row.cells) c) (Num (pos 0)))

side_is : (row : StampedRow) (side : Option Ident) → side_of (bare_row row) side ≡ sat.value_of (numbers_of row) (sat.number_of side)
side_is row None = refl
side_is row (Some column) = refl

pub to_met : (row : StampedRow) (check : Check) → Meets (bare_row row) check → IsMet (numbers_of row) check
to_met row check h = subst (λ (n : ℤ × ℤ). (n.0 -ℤ n.1) ≤ℤ check.most) (λ i. (side_is row check.hi i, side_is row check.lo i)) h

pub from_met : (row : StampedRow) (check : Check) → IsMet (numbers_of row) check → Meets (bare_row row) check
from_met row check h = subst (λ (n : ℤ × ℤ). (n.0 -ℤ n.1) ≤ℤ check.most) (λ i. (sym (side_is row check.hi) i, sym (side_is row check.lo) i)) h

-- a comparison that can't fail holds
le_holds : (a b : ℤ) → (a ≤ℤ b → ⊥) ⊎ (a ≤ℤ b)
le_holds a b = by (int_le a b) refl
  where
    by : (r : Bool) → int_le a b ≡ r → (a ≤ℤ b → ⊥) ⊎ (a ≤ℤ b)
    by true e = inr (omega (arith, ints, e))
    by false e = inl (λ h. omega (arith, ints, h, e))

pub met_holds : (numbers : ℕ → ℤ) (check : Check) → ((IsMet numbers check → ⊥) → ⊥) → IsMet numbers check
met_holds numbers check free = by (le_holds (sat.value_of numbers (sat.number_of check.hi) -ℤ sat.value_of numbers (sat.number_of check.lo)) check.most)
  where
    by : (IsMet numbers check → ⊥) ⊎ IsMet numbers check → IsMet numbers check
    by (inl never) = absurd (free never)
    by (inr there) = there

-- a side of a check is a declared column outside the key
pub record IsSide (table : Declaration) (column : Ident) : Type 0 where
  pub col : Column
  pub declared : slice_get table.columns column.num ≡ Some col
  pub outside : is_key_column table.key column.num ≡ false

abbrev pub SideIs : Declaration → Option Ident → Type 0
SideIs table None = Unit {0}
SideIs table (Some column) = IsSide table column

-- two assignments that are the same at the sides
met_same : (a b : ℕ → ℤ) (check : Check) → sat.value_of a (sat.number_of check.hi) ≡ sat.value_of b (sat.number_of check.hi)
    → sat.value_of a (sat.number_of check.lo) ≡ sat.value_of b (sat.number_of check.lo) → IsMet a check → IsMet b check
met_same a b check hi lo h = subst (λ (n : ℤ × ℤ). (n.0 -ℤ n.1) ≤ℤ check.most) (λ i. (hi i, lo i)) h

same_side : (table : Declaration) (a b : ℕ → ℤ) (side : Option Ident) → SideIs table side → ((column : Ident) → IsSide table column → a column.num ≡ b column.num)
    → sat.value_of a (sat.number_of side) ≡ sat.value_of b (sat.number_of side)
same_side table a b None is same = refl
same_side table a b (Some column) is same = same column is

-- whether a set of the column wins
abbrev wins_by : Stamp → Option Cell → Bool
wins_by s None = true
wins_by s (Some (Count n)) = true
wins_by s (Some (Last v t)) = is_lt (stamp_cmp t s)
wins_by s (Some (Plain v)) = true

-- it loses in a column that the last writer wins alone
loses_last : (columns : List Column) (cells : List Cell) (s : Stamp) (c : ℕ) → CellsFit columns cells → wins_by s (slice_get cells c) ≡ false → merge_of columns c ≡ merges.Lww
loses_last [] [] s c fits loses = absurd cc
loses_last [] (cell ∷ cells) s c fits loses = absurd fits
loses_last (column ∷ columns) [] s c fits loses = absurd fits
loses_last (column ∷ columns) (Count n ∷ cells) s zero fits loses = absurd cc
loses_last (column ∷ columns) (Last v t ∷ cells) s zero fits loses = fits.0.0
loses_last (column ∷ columns) (Plain v ∷ cells) s zero fits loses = absurd cc
loses_last (column ∷ columns) (cell ∷ cells) s (suc c) fits loses = loses_last columns cells s c fits.1 loses

number_got : (v : Val) → valid.number_of (got_of v) ≡ number_in v
number_got (Int n) = refl
number_got (IsText text) = refl

number_at : (row : StampedRow) (column : Ident) (cell : Cell) → slice_get row.cells column.num ≡ Some cell → numbers_of row column.num ≡ valid.number_of (value_of cell)
number_at row column cell at = ap valid.number_of (value_at row column cell at)

-- the number of a column after a change, where the row was kept
found_number : (table : Declaration) (column : Ident) (col : Column) (annotated : Bool) (s : Stamp) (e : RowEffect) (row : StampedRow) → slice_get table.columns column.num ≡ Some col
    → ChangeFits table e → CellsFit table.columns row.cells
    → numbers_after (λ c. wins_by s (slice_get row.cells c)) (effect_of e) (numbers_of row) column.num ≡ numbers_of (changed annotated s e row) column.num
found_number table column col annotated s e row declared fits cells =
    (λ i. number_after (wins_by s (at.is i)) (write_to column.num e.writes.items) (number_at row column at.cell at.is i))
    ∙ by (write_to column.num e.writes.items) refl at.cell at.fits
    ∙ sym (number_at (changed annotated s e row) column (by_write s (write_to column.num e.writes.items) at.cell) (cell_after annotated s e row column.num at.cell fits.order at.is))
  where
    at : CellAt col row.cells column.num
    at = cell_at table.columns row.cells column.num col cells declared

    fit_of : (w : Write) → write_to column.num e.writes.items ≡ Some w → WriteFits col w
    fit_of w is = let fit : IsWrite table column.num w = write_fits table column.num e.writes.items w fits.writes is in
        subst (λ (c : Column). WriteFits c w) (same_some (slice_get table.columns column.num) fit.column col fit.declared declared) fit.fits

    by : (w : Option Write) → write_to column.num e.writes.items ≡ w → (cell : Cell) → CellFits col cell
        → number_after (wins_by s (Some cell)) w (valid.number_of (value_of cell)) ≡ valid.number_of (value_of (by_write s w cell))
    by None is cell f = none (wins_by s (Some cell))
      where
        none : (b : Bool) → number_after b None (valid.number_of (value_of cell)) ≡ valid.number_of (value_of cell)
        none b = refl
    by (Some (Delta d)) is (Count n) f = refl
    by (Some (Delta d)) is (Last v t) f = absurd (let same : merges.NumDelta ≡ merges.Lww = sym (fit_of (Delta d) is) ∙ f.0 in cc)
    by (Some (Delta d)) is (Plain v) f = absurd (let merged : is_unmerged merges.NumDelta ≡ true = ap is_unmerged (sym (fit_of (Delta d) is)) ∙ f.0 in cc)
    by (Some (Set v)) is (Count n) f = absurd ((fit_of (Set v) is).0 f)
    by (Some (Set v)) is (Last x t) f = either (is_lt (stamp_cmp t s))
      where
        either : (b : Bool) → number_after b (Some (Set v)) (valid.number_of (got_of x))
            ≡ valid.number_of (value_of (last_cell (if b then (record { value = v; stamp = s }) else (record { value = x; stamp = t }))))
        either true = sym (number_got v)
        either false = refl
    by (Some (Set v)) is (Plain x) f = sym (number_got v)

-- and where it is made from zeros
made_number : (table : Declaration) (column : Ident) (annotated : Bool) (s : Stamp) (e : RowEffect) → IsSide table column → ChangeFits table e → is_insert e.act ≡ true → 1 ≤ s.time
    → numbers_after (λ c. true) (effect_of e) (λ c. pos 0) column.num ≡ numbers_of (changed annotated s e (zero_row table e.key)) column.num
made_number table column annotated s e side fits inserts some =
    ap (λ w. number_after true w (pos 0)) wrote.is ∙ by wrote.write wrote.is
    ∙ ap (λ w. valid.number_of (value_of (by_write s w zero_of_it))) (sym wrote.is)
    ∙ sym (number_at (changed annotated s e (zero_row table e.key)) column (by_write s (write_to column.num e.writes.items) zero_of_it)
    (cell_after annotated s e (zero_row table e.key) column.num zero_of_it fits.order (zero_cell table e.key column.num side.col side.declared side.outside)))
  where
    zero_of_it : Cell
    zero_of_it = cell_from side.col.merge (zero_of side.col.ty)

    wrote : IsWritten e.writes.items column.num
    wrote = insert_writes table e column.num side.col fits inserts side.declared side.outside

    fit_of : (w : Write) → write_to column.num e.writes.items ≡ Some w → WriteFits side.col w
    fit_of w is = let fit : IsWrite table column.num w = write_fits table column.num e.writes.items w fits.writes is in
        subst (λ (c : Column). WriteFits c w) (same_some (slice_get table.columns column.num) fit.column side.col fit.declared side.declared) fit.fits

    delta : (merge : Merge) (ty : Ty) (d : ℤ) → merge ≡ merges.NumDelta → (pos 0 +ℤ d) ≡ valid.number_of (value_of (written s (Delta d) (cell_from merge (zero_of ty))))
    delta merges.NumDelta types.Int d is = refl
    delta merges.NumDelta types.Text d is = refl
    delta merges.NumDelta types.Ints d is = refl
    delta merges.Plain ty d is = absurd cc
    delta merges.Fresh ty d is = absurd cc
    delta merges.Lww ty d is = absurd cc

    set : (merge : Merge) (z v : Val) → merge ≢ merges.NumDelta → number_in v ≡ valid.number_of (value_of (written s (Set v) (cell_from merge z)))
    set merges.Plain z v apart = sym (number_got v)
    set merges.Fresh z v apart = sym (number_got v)
    set merges.Lww z v apart =
        sym (ap (λ b. valid.number_of (value_of (last_cell (if b then (record { value = v; stamp = s }) else (record { value = z; stamp = zero_stamp }))))) (zero_loses s some) ∙ number_got v)
    set merges.NumDelta z v apart = absurd (apart refl)

    by : (w : Write) → write_to column.num e.writes.items ≡ Some w → number_after true (Some w) (pos 0) ≡ valid.number_of (value_of (written s w zero_of_it))
    by (Delta d) is = delta side.col.merge side.col.ty d (fit_of (Delta d) is)
    by (Set v) is = set side.col.merge (zero_of side.col.ty) v (fit_of (Set v) is).0

-- a row meets all checks of its table
abbrev pub AreMet : Declaration → StampedRow → Type 0
AreMet table row = (k : ℕ) (check : Check) → slice_get (checks_of table) k ≡ Some check → Meets (bare_row row) check

pub all_from : {A : Type 0} (P : A → Type 0) (xs : List A) → ((k : ℕ) (x : A) → slice_get xs k ≡ Some x → P x) → All P xs
all_from P xs each = λ k d lt. each k _ (get_at xs k d lt)

pub check_found : (table : Declaration) (check : Check) (annotated : Bool) (s : Stamp) (e : RowEffect) (row : StampedRow) → is_draw e.act ≡ false → SideIs table check.hi → SideIs table check.lo → ChangeFits table e
    → CellsFit table.columns row.cells → (BreaksRow table (effect_of e) check → ⊥) → AreMet table row → Meets (bare_row (changed annotated s e row)) check
check_found table check annotated s e row finds hi lo fits cells free met =
    from_met (changed annotated s e row) check
    (met_same after (numbers_of (changed annotated s e row)) check (same_side table after _ check.hi hi same) (same_side table after _ check.lo lo same)
    (met_holds after check (λ breaks. free (record {
      found = finds;
      numbers = numbers_of row;
      wins = λ c. wins_by s (slice_get row.cells c);
      chosen = λ c loses. loses_last table.columns row.cells s c cells loses;
      met = all_from (IsMet (numbers_of row)) (checks_of table) (λ k c at. to_met row c (met k c at));
      breaks = breaks;
    }))))
  where
    after : ℕ → ℤ
    after = numbers_after (λ c. wins_by s (slice_get row.cells c)) (effect_of e) (numbers_of row)

    same : (column : Ident) → IsSide table column → after column.num ≡ numbers_of (changed annotated s e row) column.num
    same column side = found_number table column side.col annotated s e row side.declared fits cells

pub check_made : (table : Declaration) (check : Check) (annotated : Bool) (s : Stamp) (e : RowEffect) → SideIs table check.hi → SideIs table check.lo → ChangeFits table e → is_insert e.act ≡ true → 1 ≤ s.time
    → (BreaksZeros (effect_of e) check → ⊥) → Meets (bare_row (changed annotated s e (zero_row table e.key))) check
check_made table check annotated s e hi lo fits inserts some free =
    from_met row check
    (met_same after (numbers_of row) check (same_side table after _ check.hi hi same) (same_side table after _ check.lo lo same)
    (met_holds after check (λ breaks. free (record { made = inserts; breaks = breaks }))))
  where
    row : StampedRow
    row = changed annotated s e (zero_row table e.key)

    after : ℕ → ℤ
    after = numbers_after (λ c. true) (effect_of e) (λ c. pos 0)

    same : (column : Ident) → IsSide table column → after column.num ≡ numbers_of row column.num
    same column side = made_number table column annotated s e side fits inserts some
