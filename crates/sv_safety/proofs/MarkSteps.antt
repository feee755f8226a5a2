-- What one change keeps of a row: whether it is present, and what it had before.
use Rattle.std.proofs.Common.{◌≡◌, ◌≢◌, ◌≤◌, if◌then◌else◌, Bool, true, false, Option, Some, None, slice_get, refl, sym, ap, ◌∙◌, ◌&&◌}
use Rattle.std.specs.Ordering.{is_lt}
use Rattle.sv_value.specs.declared.stamps.Stamp.{Stamp}
use Rattle.sv_value.specs.Orders.{stamp_cmp}
use Rattle.sv_app.specs.declared.acts.Act.{Act}
use Rattle.sv_app.specs.declared.acts.Act.TheVariants.{Insert, Update, Remove, Fresh}
use Rattle.sv_app.specs.declared.apps.Ident.{Ident}
use Rattle.sv_app.specs.declared.schemas.Column.{Column}
use Rattle.sv_app.specs.declared.schemas.Kind.{Kind}
use Rattle.sv_app.specs.declared.schemas.Kind.TheVariants as kinds
use Rattle.sv_app.specs.declared.schemas.Merge.TheVariants as merges
use Rattle.sv_app.specs.Kinds.{allows, is_grow_only, kind_allows, keys_allow, is_fresh}
use Rattle.sv_app.specs.Schema.{Declaration}
use Rattle.sv_app.specs.Valid as valid
use Rattle.sv_app.proofs.ListLaws.{same_some}
use Rattle.sv_effect.specs.declared.ops.RowEffect.{RowEffect}
use Rattle.sv_effect.specs.declared.ops.Write.{Write}
use Rattle.sv_effect.specs.declared.ops.Write.TheVariants.{Delta, Set}
use Rattle.sv_effect.specs.Acts.{is_insert}
use Rattle.sv_effect.specs.BareTables.{value_of, bare_row}
use Rattle.sv_effect.specs.Fits.{IsWrite, ChangeFits, CellsFit}
use Rattle.sv_effect.specs.RowChange.{changed, turn_of, turned, marked, zero_row}
use Rattle.sv_effect.specs.StampedTables.{Stamped, StampedRow, zero_stamp}
use Rattle.sv_effect.specs.Threatened.{is_remove, write_to, is_set}
use Rattle.sv_effect.proofs.FitLaws.{CellAt, cell_at}
use Rattle.sv_effect.proofs.KeyedLaws.{value_at}
use Rattle.sv_safety.proofs.Cells.{by_write, write_fits, cell_after}
use Rattle.sv_safety.proofs.Stamps.{zero_loses}

-- a present row stays present, unless the change removes it
pub present_found : (annotated : Bool) (s : Stamp) (e : RowEffect) (row : StampedRow) → is_remove e.act ≡ false → row.mark.value ≡ true → (changed annotated s e row).mark.value ≡ true
present_found annotated s e row stays present = by e.act stays
  where
    turn : (b : Bool) → (turned b row.mark (record { value = true; stamp = s })).value ≡ true
    turn false = refl
    turn true = either (is_lt (stamp_cmp row.mark.stamp s))
      where
        mark : Stamped Bool
        mark = record { value = true; stamp = s }

        either : (b : Bool) → (if b then mark else row.mark).value ≡ true
        either true = refl
        either false = present

    by : (act : Act) → is_remove act ≡ false → (marked annotated s (turn_of act) row.mark).value ≡ true
    by Insert is = turn annotated
    by Fresh is = turn annotated
    by Update is = present
    by Remove is = absurd cc

-- a row that is made from zeros is present
pub present_made : (table : Declaration) (annotated : Bool) (s : Stamp) (e : RowEffect) → is_insert e.act ≡ true → 1 ≤ s.time → (changed annotated s e (zero_row table e.key)).mark.value ≡ true
present_made table annotated s e inserts some = by e.act inserts
  where
    mark : Stamped Bool
    mark = record { value = true; stamp = s }

    turn : (b : Bool) → (turned b (record { value = false; stamp = zero_stamp }) mark).value ≡ true
    turn false = refl
    turn true = ap (λ b. (if b then mark else record { value = false; stamp = zero_stamp }).value) (zero_loses s some)

    by : (act : Act) → is_insert act ≡ true → (marked annotated s (turn_of act) (record { value = false; stamp = zero_stamp })).value ≡ true
    by Insert is = turn annotated
    by Fresh is = turn annotated
    by Update is = absurd cc
    by Remove is = absurd cc

-- a row that is present after a change that inserts nothing was present before
pub present_before : (annotated : Bool) (s : Stamp) (e : RowEffect) (row : StampedRow) → is_insert e.act ≡ false → (changed annotated s e row).mark.value ≡ true → row.mark.value ≡ true
present_before annotated s e row none_made present = by e.act none_made present
  where
    turn : (b : Bool) → (turned b row.mark (record { value = false; stamp = s })).value ≡ true → row.mark.value ≡ true
    turn false is = absurd cc
    turn true is = either (is_lt (stamp_cmp row.mark.stamp s)) is
      where
        mark : Stamped Bool
        mark = record { value = false; stamp = s }

        either : (b : Bool) → (if b then mark else row.mark).value ≡ true → row.mark.value ≡ true
        either true is = absurd cc
        either false is = is

    by : (act : Act) → is_insert act ≡ false → (marked annotated s (turn_of act) row.mark).value ≡ true → row.mark.value ≡ true
    by Insert is p = absurd cc
    by Fresh is p = absurd cc
    by Update is p = p
    by Remove is p = turn annotated p

-- a column that isn't set and is no counter keeps its value
pub value_stays : (table : Declaration) (column : Ident) (col : Column) (annotated : Bool) (s : Stamp) (e : RowEffect) (row : StampedRow) → slice_get table.columns column.num ≡ Some col
    → col.merge ≢ merges.NumDelta → ChangeFits table e → CellsFit table.columns row.cells → is_set (write_to column.num e.writes.items) ≡ false
    → valid.value_of (bare_row (changed annotated s e row)) column ≡ valid.value_of (bare_row row) column
value_stays table column col annotated s e row declared apart fits cells unset =
    value_at (changed annotated s e row) column (by_write s (write_to column.num e.writes.items) at.cell) (cell_after annotated s e row column.num at.cell fits.order at.is)
    ∙ by (write_to column.num e.writes.items) refl unset
    ∙ sym (value_at row column at.cell at.is)
  where
    at : CellAt col row.cells column.num
    at = cell_at table.columns row.cells column.num col cells declared

    by : (w : Option Write) → write_to column.num e.writes.items ≡ w → is_set w ≡ false → value_of (by_write s w at.cell) ≡ value_of at.cell
    by None is unset = refl
    by (Some (Delta d)) is unset =
        let fit : IsWrite table column.num (Delta d) = write_fits table column.num e.writes.items (Delta d) fits.writes is in
        absurd (apart (ap (λ (c : Column). c.merge) (same_some (slice_get table.columns column.num) col fit.column declared fit.declared) ∙ fit.fits))
    by (Some (Set v)) is unset = absurd cc

-- nothing is removed from a grow-only table
pub grown_stays : (d : Declaration) (act : Act) → is_grow_only d.kind ≡ true → allows d act ≡ true → is_remove act ≡ false
grown_stays d Insert grown allowed = refl
grown_stays d Fresh grown allowed = refl
grown_stays d Update grown allowed = refl
grown_stays d Remove grown allowed = by d.kind grown allowed
  where
    by : (kind : Kind) → is_grow_only kind ≡ true → (kind_allows kind Remove && keys_allow (is_fresh d) Remove) ≡ true → true ≡ false
    by kinds.Plain grown allowed = absurd cc
    by kinds.Arset grown allowed = absurd cc
    by kinds.Aoset grown allowed = absurd cc
    by kinds.Uoset grown allowed = absurd cc
    by kinds.Auset grown allowed = absurd cc
