-- The stamps behind an operation are those before it, or its own.
use Rattle.std.proofs.Common.{◌≡◌, ℕ, zero, suc, ◌+◌, ◌<◌, ◌≤◌, if◌then◌else◌, cond, Bool, true, false, List, [], ◌∷◌, Option, Some, None, slice_get, refl, sym, subst, ◌∙◌, arith}
use Rattle.std.specs.Prelude.{unwrap_or}
use Rattle.std.specs.FinMap.{get, get-insert}
use Rattle.std.specs.Option.{option_map}
use Rattle.std.specs.Ordering.{is_lt}
use Rattle.sv_value.specs.declared.values.Val.{Val}
use Rattle.sv_value.specs.declared.values.Val.TheVariants.{Int, Text as IsText}
use Rattle.sv_value.specs.Orders.{stamp_cmp}
use Rattle.sv_app.specs.declared.schemas.Column.{Column}
use Rattle.sv_app.specs.declared.schemas.Merge.{Merge}
use Rattle.sv_app.specs.declared.schemas.Merge.TheVariants as merges
use Rattle.sv_app.specs.Schema.{Declaration}
use Rattle.sv_app.proofs.PlaceLaws.{place_total}
use Rattle.sv_effect.specs.declared.cells.Cell.{Cell}
use Rattle.sv_effect.specs.declared.cells.Cell.TheVariants.{Count, Last, Plain}
use Rattle.sv_effect.specs.declared.ops.Op.{Op}
use Rattle.sv_effect.specs.declared.ops.RowEffect.{RowEffect}
use Rattle.sv_effect.specs.declared.ops.Write.{Write}
use Rattle.sv_effect.specs.declared.ops.Write.TheVariants.{Delta, Set}
use Rattle.sv_effect.specs.Applied.{place_of, changes_from, columns_in, annotated_in, zeros_in, zero_row_in, changed_at, with_change_at, with_changes}
use Rattle.sv_effect.specs.Fits.{Ascending, columns_written, AllFit}
use Rattle.sv_effect.specs.Newer.{IsEarlier, IsOlder, AreOlder}
use Rattle.sv_effect.specs.RowChange.{last_cell, made, each, marked, turn_of, changed, cell_from, cells_from}
use Rattle.sv_effect.specs.StampedTables.{Stamped, StampedRow, StampedTables}
use Rattle.sv_effect.specs.TablesOfCut.{is_place}
use Rattle.sv_effect.specs.Threatened.{write_to}
use Rattle.sv_effect.proofs.FitLaws.{get_each}
use Rattle.sv_safety.specs.Laws.{StampsStayEarlier}
use Rattle.sv_safety.proofs.Cells.{by_write, made_is}
use Rattle.sv_safety.proofs.Stamps.{stamp_of}
use Rattle.sv_safety.proofs.Walk.{change_of}

earlier_written : (op : Op) (n time : ℕ) → op.time < time → (w : Option Write) (cell : Cell) → IsEarlier time cell → IsEarlier time (by_write (stamp_of op n) w cell)
earlier_written op n time lt None cell h = h
earlier_written op n time lt (Some (Delta d)) (Count k) h = tt
earlier_written op n time lt (Some (Delta d)) (Last v t) h = h
earlier_written op n time lt (Some (Delta d)) (Plain v) h = tt
earlier_written op n time lt (Some (Set v)) (Count k) h = tt
earlier_written op n time lt (Some (Set v)) (Plain x) h = tt
earlier_written op n time lt (Some (Set v)) (Last x t) h = by (is_lt (stamp_cmp t (stamp_of op n)))
  where
    by : (r : Bool) → IsEarlier time (last_cell (if r then (record { value = v; stamp = stamp_of op n }) else (record { value = x; stamp = t })))
    by true = lt
    by false = h

older_changed : (op : Op) (n time : ℕ) → op.time < time → (annotated : Bool) (e : RowEffect) (row : StampedRow) → Ascending (columns_written e.writes.items) → IsOlder time row → IsOlder time (changed annotated (stamp_of op n) e row)
older_changed op n time lt annotated e row order h = record { mark = marks annotated (turn_of e.act); cells = cells }
  where
    marks : (a : Bool) (turn : Option Bool) → (marked a (stamp_of op n) turn row.mark).stamp.time < time
    marks a None = h.mark
    marks false (Some on) = lt
    marks true (Some on) = by (is_lt (stamp_cmp row.mark.stamp (stamp_of op n)))
      where
        mark : Stamped Bool
        mark = record { value = on; stamp = stamp_of op n }

        by : (r : Bool) → (if r then mark else row.mark).stamp.time < time
        by true = lt
        by false = h.mark

    cells : (c : ℕ) (cell : Cell) → slice_get (each (λ k. made (stamp_of op n) k e.writes.items) 0 row.cells) c ≡ Some cell → IsEarlier time cell
    cells c cell at = by (slice_get row.cells c) refl (sym (get_each (λ k. made (stamp_of op n) k e.writes.items) 0 row.cells c) ∙ at)
      where
        by : (o : Option Cell) → slice_get row.cells c ≡ o → option_map (made (stamp_of op n) (0 + c) e.writes.items) o ≡ Some cell → IsEarlier time cell
        by None is e' = absurd cc
        by (Some x) is e' =
            let same : made (stamp_of op n) (0 + c) e.writes.items x ≡ cell = cc in
            subst (IsEarlier time) (sym (made_is (stamp_of op n) (0 + c) e.writes.items x order) ∙ same) (earlier_written op n time lt (write_to (0 + c) e.writes.items) x (h.cells c x is))

pub zero_cells : (time : ℕ) → 1 ≤ time → (columns : List Column) (vs : List Val) (c : ℕ) (cell : Cell) → slice_get (cells_from columns vs) c ≡ Some cell → IsEarlier time cell
zero_cells time some [] vs c cell e = absurd cc
zero_cells time some (column ∷ columns) [] c cell e = absurd cc
zero_cells time some (column ∷ columns) (v ∷ vs) zero cell e = let same : cell_from column.merge v ≡ cell = cc in subst (IsEarlier time) same (by column.merge v)
  where
    by : (merge : Merge) (v : Val) → IsEarlier time (cell_from merge v)
    by merges.Plain v = tt
    by merges.Fresh v = tt
    by merges.Lww v = omega (arith, some)
    by merges.NumDelta (Int k) = tt
    by merges.NumDelta (IsText b) = tt
zero_cells time some (column ∷ columns) (v ∷ vs) (suc c) cell e = zero_cells time some columns vs c cell e

older_change : (schema : List Declaration) (op : Op) (n time : ℕ) (e : RowEffect) (t : StampedTables) → op.time < time → Ascending (columns_written e.writes.items) → AreOlder time t
    → AreOlder time (with_change_at schema (place_of e) (change_of op n e) t)
older_change schema op n time e t lt order h q row is = split (is_place q (place_of e)) (sym (get-insert place_total t (place_of e) new q) ∙ is)
  where
    new : StampedRow
    new = changed_at schema (place_of e) (change_of op n e) (unwrap_or (get t (place_of e)) (zero_row_in schema (place_of e)))

    start : (o : Option StampedRow) → get t (place_of e) ≡ o → IsOlder time (unwrap_or o (zero_row_in schema (place_of e)))
    start None at = record { mark = omega (arith, lt); cells = zero_cells time (omega (arith, lt)) (columns_in schema (place_of e)) (zeros_in schema (place_of e)) }
    start (Some x) at = h (place_of e) x at

    split : (b : Bool) → cond b (Some new) (get t q) ≡ Some row → IsOlder time row
    split true e' = subst (IsOlder time) (let same : new ≡ row = cc in same) (older_changed op n time lt (annotated_in schema (place_of e)) e _ order (start (get t (place_of e)) refl))
    split false e' = h q row e'

older_all : (schema : List Declaration) (op : Op) (n time : ℕ) (es : List RowEffect) (t : StampedTables) → op.time < time → AllFit schema es → AreOlder time t → AreOlder time (with_changes schema (changes_from op n es) t)
older_all schema op n time [] t lt fits h = h
older_all schema op n time (e ∷ es) t lt fits h = older_all schema op (suc n) time es (with_change_at schema (place_of e) (change_of op n e) t) lt fits.1 (older_change schema op n time e t lt fits.0.fits.order h)

pub stamps_stay_earlier : StampsStayEarlier
stamps_stay_earlier schema op t time fits lt h = older_all schema op 0 time op.effects t lt fits.changes h
