-- An operation that `plain` doesn't threaten commutes with each one of another time or site.
use Rattle.std.proofs.Common.{◌≡◌, inl, inr, ℕ, ◌+◌, if◌then◌else◌, Bool, true, false, List, [], ◌∷◌, Option, Some, None, refl, sym, ap, ◌∙◌}
use Rattle.std.specs.Prelude.{unwrap_or}
use Rattle.std.specs.FinMap.{get, same_map}
use Rattle.sv_value.specs.declared.values.Val.{Val}
use Rattle.sv_value.specs.declared.values.Val.TheVariants.{Int, Text}
use Rattle.sv_app.specs.declared.places.Place.{Place}
use Rattle.sv_app.specs.declared.schemas.Column.{Column}
use Rattle.sv_app.specs.declared.schemas.Merge.{Merge}
use Rattle.sv_app.specs.declared.schemas.Merge.TheVariants as merges
use Rattle.sv_app.specs.Schema.{Declaration}
use Rattle.sv_app.proofs.PlaceLaws.{place_total, exact_places}
use Rattle.sv_effect.specs.declared.cells.Cell.{Cell}
use Rattle.sv_effect.specs.declared.cells.Cell.TheVariants.{Count, Last, Plain}
use Rattle.sv_effect.specs.declared.ops.Op.{Op}
use Rattle.sv_effect.specs.StampedTables.{Stamped, StampedRow}
use Rattle.sv_effect.specs.RowChange.{each, turn_of, cell_from, cells_from}
use Rattle.sv_effect.specs.Applied.{Change, changes_of, columns_in, annotated_in, zeros_in, zero_row_in, applied}
use Rattle.sv_effect.specs.Fits.{CellFits, CellsFit}
use Rattle.sv_app.specs.Kinds.{is_unmerged}
use Rattle.sv_effect.specs.Threatened.{is_plain_column, any_threatened}
use Rattle.sv_effect.specs.TablesOfCut.{at_place, to_column, writes_to, turn_by, turns_of}
use Rattle.sv_effect.specs.Commutes.{Apart, Commutes}
use Rattle.sv_effect.proofs.Members.{Comes, comes}
use Rattle.sv_effect.proofs.CellLaws.{all_made}
use Rattle.sv_effect.proofs.RowLaws.{changed_all, all_turned, changed_cells, changed_mark, column_stamp, turn_is, Merging}
use Rattle.sv_effect.proofs.PlaceListLaws.{names}
use Rattle.sv_effect.proofs.MediumLaws.{in_at_place, IsChange, is_change, merging}
use Rattle.sv_effect.proofs.TableLaws.{row_after, after, get-with_changes}
use Rattle.sv_effect.proofs.MergeLaws.{Merges, Strange, made_lists, turned_lists, Settled, each_both}

strange_writes : (column : ℕ) (cs ds : List Change) → Strange cs ds → Strange (writes_to column cs) (writes_to column ds)
strange_writes column cs ds strange x y h k e =
    let c : Comes (λ c. to_column column c.stamp c.value.writes.items) cs x = comes (λ c. to_column column c.stamp c.value.writes.items) cs x h in
    let d : Comes (λ c. to_column column c.stamp c.value.writes.items) ds y = comes (λ c. to_column column c.stamp c.value.writes.items) ds y k in
    strange c.from d.from c.is d.is (sym (column_stamp column c.from.stamp c.from.value.writes.items x c.gives) ∙ e ∙ column_stamp column d.from.stamp d.from.value.writes.items y d.gives)

strange_turns : (cs ds : List Change) → Strange cs ds → Strange (turns_of cs) (turns_of ds)
strange_turns cs ds strange x y h k e =
    let c : Comes (λ c. turn_by (turn_of c.value.act) c.stamp) cs x = comes (λ c. turn_by (turn_of c.value.act) c.stamp) cs x h in
    let d : Comes (λ c. turn_by (turn_of c.value.act) c.stamp) ds y = comes (λ c. turn_by (turn_of c.value.act) c.stamp) ds y k in
    let s : (turn_of c.from.value.act ≡ Some x.value) × (x.stamp ≡ c.from.stamp) = turn_is (turn_of c.from.value.act) c.from.stamp x c.gives in
    let t : (turn_of d.from.value.act ≡ Some y.value) × (y.stamp ≡ d.from.stamp) = turn_is (turn_of d.from.value.act) d.from.stamp y d.gives in
    strange c.from d.from c.is d.is (sym s.1 ∙ e ∙ t.1)

turned_both : (annotated : Bool) (ts us : List (Stamped Bool)) → Strange us ts → (annotated ≡ false → ts ≡ []) → (mark : Stamped Bool)
    → all_turned annotated ts (all_turned annotated us mark) ≡ all_turned annotated us (all_turned annotated ts mark)
turned_both true ts us strange still mark = turned_lists ts us mark strange
turned_both false ts us strange still mark = λ i. both i
  where
    none : ts ≡ []
    none = still refl

    both : all_turned false ts (all_turned false us mark) ≡ all_turned false us (all_turned false ts mark)
    both = ap (λ l. all_turned false l (all_turned false us mark)) none ∙ ap (λ l. all_turned false us (all_turned false l mark)) (sym none)

-- changes of one row, of which the first ones merge
rows_both : (annotated : Bool) (columns : List Column) (cs ds : List Change) (row : StampedRow) → Merging annotated columns cs → Settled columns row.cells → Strange ds cs
    → changed_all annotated cs (changed_all annotated ds row) ≡ changed_all annotated ds (changed_all annotated cs row)
rows_both annotated columns cs ds row merging settled strange = λ i. record { cells = cells i; mark = mark i }
  where
    column_both : (j : ℕ) (cell : Cell) → (is_plain_column columns j ≡ false → Merges cell)
        → all_made (writes_to (0 + j) cs) (all_made (writes_to (0 + j) ds) cell) ≡ all_made (writes_to (0 + j) ds) (all_made (writes_to (0 + j) cs) cell)
    column_both j cell merges = split (is_plain_column columns j) refl
      where
        split : (b : Bool) → is_plain_column columns j ≡ b → all_made (writes_to (0 + j) cs) (all_made (writes_to (0 + j) ds) cell) ≡ all_made (writes_to (0 + j) ds) (all_made (writes_to (0 + j) cs) cell)
        split true is =
            ap (λ l. all_made l (all_made (writes_to (0 + j) ds) cell)) (merging.plain j is) ∙ ap (λ l. all_made (writes_to (0 + j) ds) (all_made l cell)) (sym (merging.plain j is))
        split false is = made_lists (writes_to (0 + j) cs) (writes_to (0 + j) ds) cell (strange_writes (0 + j) ds cs strange) (merges is)

    cells : (changed_all annotated cs (changed_all annotated ds row)).cells ≡ (changed_all annotated ds (changed_all annotated cs row)).cells
    cells =
        changed_cells annotated cs (changed_all annotated ds row) ∙ ap (each (λ c. all_made (writes_to c cs)) 0) (changed_cells annotated ds row)
        ∙ each_both (λ c. all_made (writes_to c cs)) (λ c. all_made (writes_to c ds)) 0 columns row.cells settled column_both
        ∙ sym (changed_cells annotated ds (changed_all annotated cs row) ∙ ap (each (λ c. all_made (writes_to c ds)) 0) (changed_cells annotated cs row))

    mark : (changed_all annotated cs (changed_all annotated ds row)).mark ≡ (changed_all annotated ds (changed_all annotated cs row)).mark
    mark =
        changed_mark annotated cs (changed_all annotated ds row) ∙ ap (all_turned annotated (turns_of cs)) (changed_mark annotated ds row)
        ∙ turned_both annotated (turns_of cs) (turns_of ds) (strange_turns ds cs strange) merging.turns row.mark
        ∙ sym (changed_mark annotated ds (changed_all annotated cs row) ∙ ap (all_turned annotated (turns_of ds)) (changed_mark annotated cs row))

plain_merges : (merge : Merge) (cell : Cell) → ((v : Val) → cell ≡ Plain v → is_unmerged merge ≡ true) → is_unmerged merge ≡ false → Merges cell
plain_merges merge (Count n) plain is = tt
plain_merges merge (Last v s) plain is = tt
plain_merges merge (Plain v) plain is = absurd (clash (sym (plain v refl) ∙ is))
  where
    clash : true ≡ false → ⊥
    clash e = cc

fit_merges : (column : Column) (cell : Cell) → CellFits column cell → is_unmerged column.merge ≡ false → Merges cell
fit_merges column (Count n) fits is = tt
fit_merges column (Last v s) fits is = tt
fit_merges column (Plain v) fits is = plain_merges column.merge (Plain v) (λ w e. fits.0) is

fit_settled : (columns : List Column) (cells : List Cell) → CellsFit columns cells → Settled columns cells
fit_settled [] [] fits = tt
fit_settled [] (cell ∷ cells) fits = absurd fits
fit_settled (column ∷ columns) [] fits = tt
fit_settled (column ∷ columns) (cell ∷ cells) fits = (λ is. fit_merges column cell fits.0 is, fit_settled columns cells fits.1)

from_merges : (merge : Merge) (v : Val) → is_unmerged merge ≡ false → Merges (cell_from merge v)
from_merges merges.Plain v is = absurd cc
from_merges merges.Fresh v is = absurd cc
from_merges merges.Lww v is = tt
from_merges merges.NumDelta (Int n) is = tt
from_merges merges.NumDelta (Text b) is = tt

from_settled : (columns : List Column) (vs : List Val) → Settled columns (cells_from columns vs)
from_settled [] [] = tt
from_settled [] (v ∷ vs) = tt
from_settled (column ∷ columns) [] = tt
from_settled (column ∷ columns) (v ∷ vs) = (λ is. from_merges column.merge v is, from_settled columns vs)

strange_ops : (a b : Op) (q : Place) → Apart a b → Strange (at_place q (changes_of b)) (at_place q (changes_of a))
strange_ops a b q apart x y h k e = either apart
  where
    s : IsChange b 0 b.effects x
    s = is_change b 0 b.effects x (in_at_place q (changes_of b) x h)

    t : IsChange a 0 a.effects y
    t = is_change a 0 a.effects y (in_at_place q (changes_of a) y k)

    either : Apart a b → ⊥
    either (inl times) = times (sym t.time ∙ ap (λ z. z.time) (sym e) ∙ s.time)
    either (inr sites) = sites (sym t.site ∙ ap (λ z. z.site) (sym e) ∙ s.site)

-- what stands at a place after changes, by whether they name it
abbrev stepped : List Declaration → Place → Bool → List Change → Option StampedRow → Option StampedRow
stepped schema q named cs o = if named then Some (row_after schema q cs (unwrap_or o (zero_row_in schema q))) else o

-- what stands at a place after the changes of two operations
after_both : (schema : List Declaration) (q : Place) (cs ds : List Change) (o : Option StampedRow)
    → changed_all (annotated_in schema q) (at_place q cs) (changed_all (annotated_in schema q) (at_place q ds) (unwrap_or o (zero_row_in schema q)))
    ≡ changed_all (annotated_in schema q) (at_place q ds) (changed_all (annotated_in schema q) (at_place q cs) (unwrap_or o (zero_row_in schema q)))
    → after schema q cs (after schema q ds o) ≡ after schema q ds (after schema q cs o)
after_both schema q cs ds o same = split (names q cs) (names q ds)
  where
    split : (a b : Bool) → stepped schema q a cs (stepped schema q b ds o) ≡ stepped schema q b ds (stepped schema q a cs o)
    split true true = ap (λ row. Some row) same
    split true false = refl
    split false true = refl
    split false false = refl

pub unthreatened : (schema : List Declaration) (op : Op) → any_threatened schema op.effects ≡ false → Commutes schema op
unthreatened schema op safe other t fits apart tables =
    same_map place_total exact_places (applied schema op (applied schema other t)) (applied schema other (applied schema op t)) at
  where
    settled : (q : Place) (o : Option StampedRow) → get t q ≡ o → Settled (columns_in schema q) (unwrap_or o (zero_row_in schema q)).cells
    settled q None is = from_settled (columns_in schema q) (zeros_in schema q)
    settled q (Some row) is = fit_settled (columns_in schema q) row.cells (tables q row is)

    at : (q : Place) → get (applied schema op (applied schema other t)) q ≡ get (applied schema other (applied schema op t)) q
    at q =
        get-with_changes schema (changes_of op) (applied schema other t) q ∙ ap (after schema q (changes_of op)) (get-with_changes schema (changes_of other) t q)
        ∙ after_both schema q (changes_of op) (changes_of other) (get t q)
        (rows_both (annotated_in schema q) (columns_in schema q) (at_place q (changes_of op)) (at_place q (changes_of other)) (unwrap_or (get t q) (zero_row_in schema q))
        (merging schema q op 0 op.effects safe) (settled q (get t q) refl) (strange_ops op other q apart))
        ∙ sym (get-with_changes schema (changes_of other) (applied schema op t) q ∙ ap (after schema q (changes_of other)) (get-with_changes schema (changes_of op) t q))
