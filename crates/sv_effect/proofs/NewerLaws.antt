-- An operation that is newer than the tables shows there as its changes made in order, each write winning.
use Rattle.std.proofs.Common.{◌≡◌, ◌≢◌, ℕ, zero, suc, ◌+◌, ◌<◌, ◌≤◌, ◌==◌, if◌then◌else◌, cond, Bool, true, false, List, [], ◌∷◌, map, Option, Some, None, slice_get, refl, sym, ap, subst, ◌∙◌, arith}
use Rattle.std.specs.Prelude.{nat_lt, pos, unwrap_or}
use Rattle.std.specs.Option.{option_map}
use Rattle.std.specs.declared.cmp.Ordering.TheVariants.{Less, Equal, Greater}
use Rattle.std.specs.Ordering.{is_lt, nat_cmp, ordering_then}
use Rattle.std.specs.FinMap.{get, get-insert, same_map}
use Rattle.std.proofs.lemmas.Bool.Decides.{nat_tests}
use Rattle.sv_value.specs.declared.stamps.Stamp.{Stamp}
use Rattle.sv_value.specs.declared.values.Key.{Key}
use Rattle.sv_value.specs.declared.values.Val.{Val}
use Rattle.sv_value.specs.declared.values.Val.TheVariants.{Int, Text as IsText}
use Rattle.sv_value.specs.Orders.{stamp_cmp}
use Rattle.sv_app.specs.declared.gots.Got.TheVariants.{Num}
use Rattle.sv_app.specs.declared.places.Place.{Place}
use Rattle.sv_app.specs.declared.schemas.Column.{Column}
use Rattle.sv_app.specs.declared.schemas.Merge.{Merge}
use Rattle.sv_app.specs.declared.schemas.Merge.TheVariants as merges
use Rattle.sv_app.specs.declared.schemas.Ty.TheVariants as types
use Rattle.sv_app.specs.Accepted.{AcceptedSchema}
use Rattle.sv_app.specs.Kinds.{is_unmerged}
use Rattle.sv_app.specs.Schema.{Declaration}
use Rattle.sv_app.specs.Slots.{with_item}
use Rattle.sv_app.proofs.AcceptedLaws.{counter_is_int, no_lists}
use Rattle.sv_app.proofs.PlaceLaws.{place_total, exact_places}
use Rattle.sv_effect.specs.declared.cells.Cell.{Cell}
use Rattle.sv_effect.specs.declared.cells.Cell.TheVariants.{Count, Last, Plain}
use Rattle.sv_effect.specs.declared.ops.Write.{Write}
use Rattle.sv_effect.specs.declared.ops.Write.TheVariants.{Delta, Set}
use Rattle.sv_effect.specs.declared.ops.RowEffect.{RowEffect}
use Rattle.sv_effect.specs.declared.ops.Op.{Op}
use Rattle.sv_effect.specs.Applied.{Change, place_of, changes_from, columns_of, zeros_of, columns_in, annotated_in, zeros_in, zero_row_in, changed_at, with_change_at, with_changes}
use Rattle.sv_effect.specs.BareTables.{got_of, value_of, bare_row, bare}
use Rattle.sv_effect.specs.Commutes.{TablesFit}
use Rattle.sv_effect.specs.Fits.{IsWrite, AreWrites, WriteFits, AllAbove, Ascending, columns_written, FitsSchema, AllFit, KeyFits, CellFits, CellsFit, HasType}
use Rattle.sv_effect.specs.Laws.{HasNoLists, NewerWins}
use Rattle.sv_effect.specs.Newer.{IsEarlier, IsOlder}
use Rattle.sv_effect.specs.RowChange.{last_cell, written, made, each, turn_of, marked, changed, cell_from, cells_from, row_from, key_values, from_key, zero_of, values_from}
use Rattle.sv_effect.specs.Run.{row_with}
use Rattle.sv_effect.specs.RunChanges.{effect_of, written_got, with_write, with_writes}
use Rattle.sv_effect.specs.RunValues.{column}
use Rattle.sv_effect.specs.Effects.{row_after, with_effect, with_effects}
use Rattle.sv_effect.specs.StampedTables.{Stamped, StampedRow, StampedTables, zero_stamp}
use Rattle.sv_effect.specs.Suits.{with_cell}
use Rattle.sv_effect.specs.TablesOfCut.{is_place}
use Rattle.sv_effect.proofs.FitLaws.{CellAt, cell_at, get_each, made_past}
use Rattle.sv_effect.proofs.KeptLaws.{change_kept, key_type, zero_fits, zero_type}
use Rattle.sv_effect.proofs.SourceLaws.{get-bare}
use Rattle.sv_app.proofs.TestLaws.{same_test, other_test, test_same}
use Rattle.sv_effect.proofs.WriteLaws.{each_with, each_still}

-- ---- the write to a column

abbrev write_to : ℕ → List (ℕ × Write) → Option Write
write_to c [] = None
write_to c (w ∷ ws) = if w.0 == c then Some w.1 else write_to c ws

abbrev by_write : Stamp → Option Write → Cell → Cell
by_write s None cell = cell
by_write s (Some w) cell = written s w cell

-- each column is written once
made_is : (s : Stamp) (c : ℕ) (ws : List (ℕ × Write)) (cell : Cell) → Ascending (columns_written ws) → made s c ws cell ≡ by_write s (write_to c ws) cell
made_is s c [] cell order = refl
made_is s c (w ∷ ws) cell order = split (w.0 == c) refl (made_is s c ws cell order.1)
  where
    split : (b : Bool) → (w.0 == c) ≡ b → made s c ws cell ≡ by_write s (write_to c ws) cell
        → made s c ws (if b then written s w.1 cell else cell) ≡ by_write s (if b then Some w.1 else write_to c ws) cell
    split false is ih = ih
    split true is ih = made_past s c ws (written s w.1 cell) (subst (λ k. AllAbove k (columns_written ws)) (test_same w.0 c is) order.0)

-- the write to a column fits the table
write_fits : (table : Declaration) (c : ℕ) (ws : List (ℕ × Write)) (w : Write) → AreWrites table ws → write_to c ws ≡ Some w → IsWrite table c w
write_fits table c [] w fits e = absurd cc
write_fits table c (x ∷ ws) w fits e = split (x.0 == c) refl e (write_fits table c ws w fits.1)
  where
    split : (b : Bool) → (x.0 == c) ≡ b → (if b then Some x.1 else write_to c ws) ≡ Some w → (write_to c ws ≡ Some w → IsWrite table c w) → IsWrite table c w
    split false is e ih = ih e
    split true is e ih = let same : x.1 ≡ w = cc in subst (λ k. IsWrite table k w) (test_same x.0 c is) (subst (IsWrite table x.0) same fits.0)

-- ---- stamps

abbrev stamp_of : Op → ℕ → Stamp
stamp_of op n = record { time = op.time; site = op.site; place = n }

abbrev change_of : Op → ℕ → RowEffect → Change
change_of op n e = record { value = e; stamp = stamp_of op n }

cmp_itself : (n : ℕ) → nat_cmp n n ≡ Equal
cmp_itself n = grind (arith, nat_tests)

stamps_rise : (op : Op) (n m : ℕ) → n < m → is_lt (stamp_cmp (stamp_of op n) (stamp_of op m)) ≡ true
stamps_rise op n m lt =
    let less : nat_lt n m ≡ true = grind (arith, nat_tests, lt) in
    (λ i. is_lt (ordering_then (cmp_itself op.time i) (ordering_then (cmp_itself op.site i) (nat_cmp n m))))
    ∙ ap (λ b. is_lt (cond b Less (cond (n == m) Equal Greater))) less

-- changes from the n-th on have greater stamps than the cell
abbrev Beaten : Op → ℕ → Cell → Type 0
Beaten op n (Count k) = Unit {0}
Beaten op n (Last v s) = (m : ℕ) → n ≤ m → is_lt (stamp_cmp s (stamp_of op m)) ≡ true
Beaten op n (Plain v) = Unit {0}

beaten_more : (op : Op) (n : ℕ) (cell : Cell) → Beaten op n cell → Beaten op (suc n) cell
beaten_more op n (Count k) h = tt
beaten_more op n (Last v s) h = λ m le. h m (omega (arith, le))
beaten_more op n (Plain v) h = tt

zero_loses : (s : Stamp) → 1 ≤ s.time → is_lt (stamp_cmp zero_stamp s) ≡ true
zero_loses s some = let first : nat_lt 0 s.time ≡ true = grind (arith, nat_tests, some) in ap (λ b. is_lt (ordering_then (cond b Less (cond (0 == s.time) Equal Greater)) (ordering_then (nat_cmp 0 s.site) (nat_cmp 0 s.place)))) first

-- ---- the values of a row after writes that win

write_past : (n : ℕ) (ws : List (ℕ × Write)) → AllAbove n (columns_written ws) → (c : ℕ) (w : Write) → write_to c ws ≡ Some w → n < c
write_past n [] above c w e = absurd cc
write_past n (x ∷ ws) above c w e = by (x.0 == c) refl e (write_past n ws above.1 c w)
  where
    by : (b : Bool) → (x.0 == c) ≡ b → (if b then Some x.1 else write_to c ws) ≡ Some w → (write_to c ws ≡ Some w → n < c) → n < c
    by true is e ih = let less : n < x.0 = above.0 in let same : x.0 ≡ c = test_same x.0 c is in omega (arith, less, same)
    by false is e ih = ih e

get_other : (f : Cell → Cell) (n c : ℕ) (cells : List Cell) → (n ≡ c → ⊥) → slice_get (with_cell f n cells) c ≡ slice_get cells c
get_other f n c [] apart = refl
get_other f zero zero (cell ∷ cells) apart = absurd (apart refl)
get_other f zero (suc c) (cell ∷ cells) apart = refl
get_other f (suc n) zero (cell ∷ cells) apart = refl
get_other f (suc n) (suc c) (cell ∷ cells) apart = get_other f n c cells (λ e. apart (ap suc e))

-- the write shows in the value of its cell
record Shows (s : Stamp) (w : Write) (c : ℕ) (cells : List Cell) : Type 0 where
  cell : Cell
  at : slice_get cells c ≡ Some cell
  is : value_of (written s w cell) ≡ written_got w (value_of cell)

one_write : (s : Stamp) (w : Write) (c : ℕ) (cells : List Cell) → Shows s w c cells → map value_of (with_cell (written s w) c cells) ≡ with_write (c, w) (map value_of cells)
one_write s w c cells shows = go c cells shows.at
  where
    go : (n : ℕ) (xs : List Cell) → slice_get xs n ≡ Some shows.cell → map value_of (with_cell (written s w) n xs) ≡ with_item (Num (pos 0)) n (written_got w (column (map value_of xs) n)) (map value_of xs)
    go n [] e = absurd cc
    go zero (x ∷ xs) e = let same : x ≡ shows.cell = cc in ap (λ g. g ∷ map value_of xs) (ap (λ y. value_of (written s w y)) same ∙ shows.is ∙ ap (λ y. written_got w (value_of y)) (sym same))
    go (suc n) (x ∷ xs) e = ap (λ gs. value_of x ∷ gs) (go n xs e)

values_after : (s : Stamp) (ws : List (ℕ × Write)) (cells : List Cell) → Ascending (columns_written ws) → ((c : ℕ) (w : Write) → write_to c ws ≡ Some w → Shows s w c cells)
    → map value_of (each (λ c. made s c ws) 0 cells) ≡ with_writes ws (map value_of cells)
values_after s [] cells order shows = ap (map value_of) (each_still s 0 cells)
values_after s (w ∷ ws) cells order shows =
    ap (map value_of) (sym (each_with s w.0 w.1 ws 0 w.0 cells (omega arith)))
    ∙ values_after s ws (with_cell (written s w.1) w.0 cells) order.1 rest
    ∙ ap (with_writes ws) (one_write s w.1 w.0 cells (shows w.0 w.1 (ap (λ b. if b then Some w.1 else write_to w.0 ws) (same_test w.0 w.0 refl))))
  where
    rest : (c : ℕ) (x : Write) → write_to c ws ≡ Some x → Shows s x c (with_cell (written s w.1) w.0 cells)
    rest c x e =
        let less : w.0 < c = write_past w.0 ws order.0 c x e in
        let apart : w.0 ≡ c → ⊥ = λ same. omega (arith, less, same) in
        let old : Shows s x c cells = shows c x (ap (λ b. if b then Some w.1 else write_to c ws) (other_test w.0 c apart) ∙ e) in
        record { cell = old.cell; at = get_other (written s w.1) w.0 c cells apart ∙ old.at; is = old.is }

-- ---- rows below the stamps that come

record IsUnder (op : Op) (n : ℕ) (row : StampedRow) : Type 0 where
  mark : (m : ℕ) → n ≤ m → is_lt (stamp_cmp row.mark.stamp (stamp_of op m)) ≡ true
  cells : (c : ℕ) (cell : Cell) → slice_get row.cells c ≡ Some cell → Beaten op n cell

shown : (table : Declaration) (op : Op) (n : ℕ) (ws : List (ℕ × Write)) (row : StampedRow) → CellsFit table.columns row.cells → AreWrites table ws → IsUnder op n row → (c : ℕ) (w : Write) → write_to c ws ≡ Some w
    → Shows (stamp_of op n) w c row.cells
shown table op n ws row fits writes under c w is = record { cell = at.cell; at = at.is; is = by w fit.fits at.cell at.fits (under.cells c at.cell at.is) }
  where
    fit : IsWrite table c w
    fit = write_fits table c ws w writes is

    at : CellAt fit.column row.cells c
    at = cell_at table.columns row.cells c fit.column fits fit.declared

    by : (w : Write) → WriteFits fit.column w → (cell : Cell) → CellFits fit.column cell → Beaten op n cell → value_of (written (stamp_of op n) w cell) ≡ written_got w (value_of cell)
    by (Delta d) f (Count k) g b = refl
    by (Delta d) f (Last v t) g b = absurd (let same : merges.NumDelta ≡ merges.Lww = sym f ∙ g.0 in cc)
    by (Delta d) f (Plain v) g b = absurd (let same : is_unmerged merges.NumDelta ≡ true = ap is_unmerged (sym f) ∙ g.0 in cc)
    by (Set v) f (Count k) g b = absurd (f.0 g)
    by (Set v) f (Last x t) g b = ap (λ r. value_of (last_cell (if r then (record { value = v; stamp = stamp_of op n }) else (record { value = x; stamp = t })))) (b n (omega arith))
    by (Set v) f (Plain x) g b = refl

mark_after : (op : Op) (n : ℕ) (annotated : Bool) (turn : Option Bool) (row : StampedRow) → IsUnder op n row → (marked annotated (stamp_of op n) turn row.mark).value ≡ unwrap_or turn row.mark.value
mark_after op n annotated None row under = refl
mark_after op n false (Some on) row under = refl
mark_after op n true (Some on) row under = let mark : Stamped Bool = record { value = on; stamp = stamp_of op n } in ap (λ (r : Bool). (if r then mark else row.mark).value) (under.mark n (omega arith))

row_bare : (table : Declaration) (op : Op) (n : ℕ) (annotated : Bool) (e : RowEffect) (row : StampedRow) → CellsFit table.columns row.cells → AreWrites table e.writes.items
    → Ascending (columns_written e.writes.items) → IsUnder op n row → bare_row (changed annotated (stamp_of op n) e row) ≡ row_with (with_writes e.writes.items (map value_of row.cells)) (unwrap_or (turn_of e.act) row.mark.value)
row_bare table op n annotated e row fits writes order under = λ i. row_with
    (values_after (stamp_of op n) e.writes.items row.cells order (shown table op n e.writes.items row fits writes under) i)
    (mark_after op n annotated (turn_of e.act) row under i)

-- ---- a change leaves its row below later stamps

beaten_written : (op : Op) (n : ℕ) (w : Option Write) (cell : Cell) → Beaten op n cell → Beaten op (suc n) (by_write (stamp_of op n) w cell)
beaten_written op n None cell b = beaten_more op n cell b
beaten_written op n (Some (Delta d)) (Count k) b = tt
beaten_written op n (Some (Delta d)) (Last v t) b = beaten_more op n (Last v t) b
beaten_written op n (Some (Delta d)) (Plain v) b = tt
beaten_written op n (Some (Set v)) (Count k) b = tt
beaten_written op n (Some (Set v)) (Plain x) b = tt
beaten_written op n (Some (Set v)) (Last x t) b = by (is_lt (stamp_cmp t (stamp_of op n)))
  where
    by : (r : Bool) → Beaten op (suc n) (last_cell (if r then (record { value = v; stamp = stamp_of op n }) else (record { value = x; stamp = t })))
    by true = λ m le. stamps_rise op n m (omega (arith, le))
    by false = beaten_more op n (Last x t) b

under_after : (op : Op) (n : ℕ) (annotated : Bool) (e : RowEffect) (row : StampedRow) → Ascending (columns_written e.writes.items) → IsUnder op n row → IsUnder op (suc n) (changed annotated (stamp_of op n) e row)
under_after op n annotated e row order under = record { mark = marks annotated (turn_of e.act); cells = cells }
  where
    rise : (m : ℕ) → suc n ≤ m → is_lt (stamp_cmp (stamp_of op n) (stamp_of op m)) ≡ true
    rise m le = stamps_rise op n m (omega (arith, le))

    marks : (a : Bool) (turn : Option Bool) (m : ℕ) → suc n ≤ m → is_lt (stamp_cmp (marked a (stamp_of op n) turn row.mark).stamp (stamp_of op m)) ≡ true
    marks a None m le = under.mark m (omega (arith, le))
    marks false (Some on) m le = rise m le
    marks true (Some on) m le = by (is_lt (stamp_cmp row.mark.stamp (stamp_of op n)))
      where
        mark : Stamped Bool
        mark = record { value = on; stamp = stamp_of op n }

        by : (r : Bool) → is_lt (stamp_cmp (if r then mark else row.mark).stamp (stamp_of op m)) ≡ true
        by true = rise m le
        by false = under.mark m (omega (arith, le))

    cells : (c : ℕ) (cell : Cell) → slice_get (each (λ k. made (stamp_of op n) k e.writes.items) 0 row.cells) c ≡ Some cell → Beaten op (suc n) cell
    cells c cell at = by (slice_get row.cells c) refl (sym (get_each (λ k. made (stamp_of op n) k e.writes.items) 0 row.cells c) ∙ at)
      where
        number : (0 + c) ≡ c
        number = omega arith

        by : (o : Option Cell) → slice_get row.cells c ≡ o → option_map (made (stamp_of op n) (0 + c) e.writes.items) o ≡ Some cell → Beaten op (suc n) cell
        by None is e' = absurd cc
        by (Some x) is e' =
            let same : made (stamp_of op n) (0 + c) e.writes.items x ≡ cell = cc in
            subst (Beaten op (suc n)) (sym (made_is (stamp_of op n) (0 + c) e.writes.items x order) ∙ same) (beaten_written op n (write_to (0 + c) e.writes.items) x (under.cells c x is))

zero_cells : (op : Op) (n : ℕ) (columns : List Column) (vs : List Val) → 1 ≤ op.time → (c : ℕ) (cell : Cell) → slice_get (cells_from columns vs) c ≡ Some cell → Beaten op n cell
zero_cells op n [] vs some c cell e = absurd cc
zero_cells op n (column ∷ columns) [] some c cell e = absurd cc
zero_cells op n (column ∷ columns) (v ∷ vs) some zero cell e = let same : cell_from column.merge v ≡ cell = cc in subst (Beaten op n) same (by column.merge v)
  where
    by : (merge : Merge) (v : Val) → Beaten op n (cell_from merge v)
    by merges.Plain v = tt
    by merges.Fresh v = tt
    by merges.Lww v = λ m le. zero_loses (stamp_of op m) some
    by merges.NumDelta (Int k) = tt
    by merges.NumDelta (IsText b) = tt
zero_cells op n (column ∷ columns) (v ∷ vs) some (suc c) cell e = zero_cells op n columns vs some c cell e

zero_under : (op : Op) (n : ℕ) (columns : List Column) (vs : List Val) → 1 ≤ op.time → IsUnder op n (row_from columns vs false)
zero_under op n columns vs some = record { mark = λ m le. zero_loses (stamp_of op m) some; cells = zero_cells op n columns vs some }

-- ---- zeros

zeros_bare : (table : Declaration) (key : Key) (k : ℕ) (columns : List Column) → KeyFits table.columns table.key (key_values key)
    → ((j : ℕ) (column : Column) → slice_get columns j ≡ Some column → slice_get table.columns (k + j) ≡ Some column)
    → ((j : ℕ) (column : Column) → slice_get columns j ≡ Some column → column.ty ≢ types.Ints)
    → ((j : ℕ) (column : Column) → slice_get columns j ≡ Some column → column.merge ≡ merges.NumDelta → column.ty ≡ types.Int)
    → map value_of (cells_from columns (values_from table key k columns)) ≡ map got_of (values_from table key k columns)
zeros_bare table key k [] fits at lists ints = refl
zeros_bare table key k (column ∷ columns) fits at lists ints =
    λ i. by column.merge refl (from_key table.key (key_values key) k (zero_of column.ty)) typed i ∷ zeros_bare table key (suc k) columns fits rest (λ j c e. lists (suc j) c e) (λ j c e. ints (suc j) c e) i
  where
    here : slice_get table.columns k ≡ Some column
    here = let n : k ≡ (k + 0) = omega arith in ap (slice_get table.columns) n ∙ at 0 column refl

    rest : (j : ℕ) (c : Column) → slice_get columns j ≡ Some c → slice_get table.columns (suc k + j) ≡ Some c
    rest j c e = let n : (suc k + j) ≡ (k + suc j) = omega arith in ap (slice_get table.columns) n ∙ at (suc j) c e

    typed : HasType column.ty (from_key table.key (key_values key) k (zero_of column.ty))
    typed = key_type table.columns table.key (key_values key) k column (zero_of column.ty) fits here (zero_type column.ty (lists 0 column refl))

    by : (merge : Merge) → column.merge ≡ merge → (v : Val) → HasType column.ty v → value_of (cell_from merge v) ≡ got_of v
    by merges.Plain is v has = refl
    by merges.Fresh is v has = refl
    by merges.Lww is v has = refl
    by merges.NumDelta is (Int n) has = refl
    by merges.NumDelta is (IsText b) has = absurd (subst (λ ty. HasType ty (IsText b)) (ints 0 column refl is) has)

-- ---- one change, and all

abbrev AllUnder : Op → ℕ → StampedTables → Type 0
AllUnder op n t = (q : Place) (row : StampedRow) → get t q ≡ Some row → IsUnder op n row

module _ (schema : List Declaration) (accepted : AcceptedSchema schema) where
  none_lists : HasNoLists schema
  none_lists = λ number place table column at at_column. no_lists schema accepted number place table column at at_column

  before_row : (op : Op) (n : ℕ) (e : RowEffect) (t : StampedTables) → 1 ≤ op.time → FitsSchema schema e → TablesFit schema t → AllUnder op n t → (o : Option StampedRow) → get t (place_of e) ≡ o
      → bare_row (changed_at schema (place_of e) (change_of op n e) (unwrap_or o (zero_row_in schema (place_of e)))) ≡ row_after schema (effect_of e) (option_map bare_row o)
  before_row op n e t some fits tables under None is =
      row_bare fits.table op n (annotated_in schema (place_of e)) e (zero_row_in schema (place_of e)) cells fits.fits.writes fits.fits.order (zero_under op n (columns_in schema (place_of e)) (zeros_in schema (place_of e)) some)
      ∙ ap (λ vs. row_with (with_writes e.writes.items vs) (unwrap_or (turn_of e.act) false)) values
    where
      cells : CellsFit fits.table.columns (cells_from (columns_in schema (place_of e)) (zeros_in schema (place_of e)))
      cells = subst (λ o. CellsFit fits.table.columns (cells_from (columns_of o) (zeros_of o e.key))) (sym fits.declared)
          (zero_fits fits.table e.key fits.fits.key (λ j column at. none_lists e.table j fits.table column fits.declared at))

      values : map value_of (cells_from (columns_in schema (place_of e)) (zeros_in schema (place_of e))) ≡ map got_of (zeros_in schema (place_of e))
      values = subst (λ o. map value_of (cells_from (columns_of o) (zeros_of o e.key)) ≡ map got_of (zeros_of o e.key)) (sym fits.declared)
          (zeros_bare fits.table e.key 0 fits.table.columns fits.fits.key (λ j c at. let n : (0 + j) ≡ j = omega arith in ap (slice_get fits.table.columns) n ∙ at)
          (λ j c at. none_lists e.table j fits.table c fits.declared at) (λ j c at. counter_is_int schema accepted e.table j fits.table c fits.declared at))
  before_row op n e t some fits tables under (Some row) is =
      row_bare fits.table op n (annotated_in schema (place_of e)) e row (subst (λ o. CellsFit (columns_of o) row.cells) fits.declared (tables (place_of e) row is)) fits.fits.writes fits.fits.order (under (place_of e) row is)

  one_change : (op : Op) (n : ℕ) (e : RowEffect) (t : StampedTables) → 1 ≤ op.time → FitsSchema schema e → TablesFit schema t → AllUnder op n t
      → bare (with_change_at schema (place_of e) (change_of op n e) t) ≡ with_effect schema (effect_of e) (bare t)
  one_change op n e t some fits tables under = same_map place_total exact_places (bare (with_change_at schema (place_of e) (change_of op n e) t)) (with_effect schema (effect_of e) (bare t)) (λ q.
      get-bare (with_change_at schema (place_of e) (change_of op n e) t) q
      ∙ ap (option_map bare_row) (get-insert place_total t (place_of e) new q)
      ∙ by q (is_place q (place_of e))
      ∙ (λ i. cond (is_place q (place_of e)) (Some (row i)) (sym (get-bare t q) i))
      ∙ sym (get-insert place_total (bare t) (place_of e) (row_after schema (effect_of e) (get (bare t) (place_of e))) q))
    where
      new : StampedRow
      new = changed_at schema (place_of e) (change_of op n e) (unwrap_or (get t (place_of e)) (zero_row_in schema (place_of e)))

      row : bare_row new ≡ row_after schema (effect_of e) (get (bare t) (place_of e))
      row = before_row op n e t some fits tables under (get t (place_of e)) refl ∙ ap (row_after schema (effect_of e)) (sym (get-bare t (place_of e)))

      by : (q : Place) (b : Bool) → option_map bare_row (cond b (Some new) (get t q)) ≡ cond b (Some (bare_row new)) (option_map bare_row (get t q))
      by q true = refl
      by q false = refl

  under_change : (op : Op) (n : ℕ) (e : RowEffect) (t : StampedTables) → 1 ≤ op.time → FitsSchema schema e → AllUnder op n t → AllUnder op (suc n) (with_change_at schema (place_of e) (change_of op n e) t)
  under_change op n e t some fits under q row is =
      split (is_place q (place_of e)) refl (sym (get-insert place_total t (place_of e) (changed_at schema (place_of e) (change_of op n e) (unwrap_or (get t (place_of e)) (zero_row_in schema (place_of e)))) q) ∙ is)
    where
      same_row : (a b : StampedRow) → Some a ≡ Some b → a ≡ b
      same_row a b e = cc

      start : (o : Option StampedRow) → get t (place_of e) ≡ o → IsUnder op n (unwrap_or o (zero_row_in schema (place_of e)))
      start None at = zero_under op n (columns_in schema (place_of e)) (zeros_in schema (place_of e)) some
      start (Some x) at = under (place_of e) x at

      more : (r : StampedRow) → IsUnder op n r → IsUnder op (suc n) r
      more r u = record { mark = λ m le. u.mark m (omega (arith, le)); cells = λ c cell at. beaten_more op n cell (u.cells c cell at) }

      split : (b : Bool) → is_place q (place_of e) ≡ b
          → cond b (Some (changed_at schema (place_of e) (change_of op n e) (unwrap_or (get t (place_of e)) (zero_row_in schema (place_of e))))) (get t q) ≡ Some row → IsUnder op (suc n) row
      split true at e' = subst (IsUnder op (suc n)) (same_row _ row e') (under_after op n (annotated_in schema (place_of e)) e _ fits.fits.order (start (get t (place_of e)) refl))
      split false at e' = more row (under q row e')

  all_changes : (op : Op) (n : ℕ) (es : List RowEffect) (t : StampedTables) → 1 ≤ op.time → AllFit schema es → TablesFit schema t → AllUnder op n t
      → bare (with_changes schema (changes_from op n es) t) ≡ with_effects schema (map effect_of es) (bare t)
  all_changes op n [] t some fits tables under = refl
  all_changes op n (e ∷ es) t some fits tables under =
      all_changes op (suc n) es (with_change_at schema (place_of e) (change_of op n e) t) some fits.1 (change_kept schema (change_of op n e) t none_lists fits.0 tables) (under_change op n e t some fits.0 under)
      ∙ ap (with_effects schema (map effect_of es)) (one_change op n e t some fits.0 tables under)

-- ---- stamps of earlier times

earlier_loses : (s : Stamp) (op : Op) (m : ℕ) → s.time < op.time → is_lt (stamp_cmp s (stamp_of op m)) ≡ true
earlier_loses s op m lt = let first : nat_lt s.time op.time ≡ true = grind (arith, nat_tests, lt) in
    ap (λ b. is_lt (ordering_then (cond b Less (cond (s.time == op.time) Equal Greater)) (ordering_then (nat_cmp s.site op.site) (nat_cmp s.place m)))) first

older_under : (op : Op) (row : StampedRow) → IsOlder op.time row → IsUnder op 0 row
older_under op row older = record { mark = λ m le. earlier_loses row.mark.stamp op m older.mark; cells = λ c cell at. by cell (older.cells c cell at) }
  where
    by : (cell : Cell) → IsEarlier op.time cell → Beaten op 0 cell
    by (Count n) e = tt
    by (Last v s) e = λ m le. earlier_loses s op m e
    by (Plain v) e = tt

pub newer_wins : NewerWins
newer_wins schema op t accepted fits tables newer = all_changes schema accepted op 0 op.effects t fits.time fits.changes tables (λ q row at. older_under op row (newer q row at))
