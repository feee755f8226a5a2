-- Rows of a schema stay so.
use Rattle.std.proofs.Common.{◌≡◌, ℕ, suc, ◌+◌, false, List, [], ◌∷◌, map, Some, slice_get, refl, sym, ap, subst, ◌∙◌}
use Rattle.sv_app.specs.declared.schemas.Column.{Column}
use Rattle.sv_app.specs.declared.schemas.Merge.TheVariants as merges
use Rattle.sv_app.specs.declared.schemas.Ty.TheVariants as types
use Rattle.sv_app.specs.Accepted.{AcceptedSchema}
use Rattle.sv_app.specs.Schema.{Declaration}
use Rattle.sv_app.specs.Tables.{Row}
use Rattle.sv_app.proofs.AcceptedLaws.{counter_is_int, no_lists}
use Rattle.sv_app.proofs.ListLaws.{same_some}
use Rattle.sv_effect.specs.declared.cells.Cell.{Cell}
use Rattle.sv_effect.specs.declared.cells.Cell.TheVariants.{Count, Last, Plain}
use Rattle.sv_effect.specs.declared.ops.Op.{Op}
use Rattle.sv_effect.specs.declared.ops.RowEffect.{RowEffect}
use Rattle.sv_effect.specs.Applied.{place_of, changes_of, columns_of, zeros_of, annotated_in, zero_row_in, applied}
use Rattle.sv_effect.specs.BareTables.{value_of, bare}
use Rattle.sv_effect.specs.Commutes.{TablesFit}
use Rattle.sv_effect.specs.Fits.{FitsSchema, ChangeFits, OpFits, CellFits, CellsFit}
use Rattle.sv_effect.specs.RowChange.{changed, row_from, zero_row}
use Rattle.sv_effect.specs.RowsFit.{RowStands, AllStand}
use Rattle.sv_effect.specs.StampedTables.{StampedTables}
use Rattle.sv_effect.specs.Takes.{FindsRows}
use Rattle.sv_effect.proofs.FitLaws.{writes_fit}
use Rattle.sv_effect.proofs.KeptLaws.{zero_fits}
use Rattle.sv_effect.proofs.KeyedLaws.{key_stays, zero_key}
use Rattle.sv_trace.specs.Laws.{RowsAreOf}
use Rattle.sv_trace.specs.Standing.{type_of_got, RowIs}
use Rattle.sv_trace.proofs.WriteLaws.{type_had, got_type}
use Rattle.sv_safety.proofs.AcceptLaws.{none_lists}
use Rattle.sv_safety.proofs.Stamps.{stamp_of}
use Rattle.sv_safety.proofs.TableWalk.{BareAt, from_bare}
use Rattle.sv_safety.proofs.Walk.{Keeps, walk}

pub stand_fit : (schema : List Declaration) (t : StampedTables) → AllStand schema t → TablesFit schema t
stand_fit schema t stand p row at = let s : RowStands schema p row = stand p row at in subst (λ o. CellsFit (columns_of o) row.cells) (sym s.key.declared) s.cells

cell_types : (columns : List Column) (cells : List Cell) → CellsFit columns cells → ((j : ℕ) (c : Column) → slice_get columns j ≡ Some c → c.merge ≡ merges.NumDelta → c.ty ≡ types.Int)
    → map type_of_got (map value_of cells) ≡ map (λ (c : Column). c.ty) columns
cell_types [] [] fits ints = refl
cell_types [] (cell ∷ cells) fits ints = absurd fits
cell_types (column ∷ columns) [] fits ints = absurd fits
cell_types (column ∷ columns) (cell ∷ cells) fits ints = λ i. one cell fits.0 i ∷ cell_types columns cells fits.1 (λ j c at. ints (suc j) c at) i
  where
    one : (cell : Cell) → CellFits column cell → type_of_got (value_of cell) ≡ column.ty
    one (Count n) f = sym (ints 0 column refl f)
    one (Last v s) f = got_type v ∙ type_had column.ty v f.1
    one (Plain v) f = got_type v ∙ type_had column.ty v f.1

pub stand_rows : (schema : List Declaration) (t : StampedTables) → AcceptedSchema schema → AllStand schema t → RowsAreOf schema (bare t)
stand_rows schema t accepted stand p row at =
    let found : BareAt t p row = from_bare t p row at in
    let s : RowStands schema p found.stamped = stand p found.stamped found.at in
    subst (λ (r : Row). RowIs schema p r.values) found.is
    (record { key = s.key; types = cell_types s.key.table.columns found.stamped.cells s.cells (λ j c at. counter_is_int schema accepted p.table j s.key.table c s.key.declared at) })

-- an operation that finds its rows leaves rows of the schema
pub stand_kept : (schema : List Declaration) (op : Op) (t : StampedTables) → AcceptedSchema schema → OpFits schema op → FindsRows schema (changes_of op) t → AllStand schema t → AllStand schema (applied schema op t)
stand_kept schema op t accepted fits found stand q row at =
    walk schema op (λ n. RowStands schema) 0 op.effects t (none_lists schema accepted) fits.changes (stand_fit schema t stand) found step stand q row at
  where
    step : (k : ℕ) (e : RowEffect) → slice_get op.effects k ≡ Some e → FitsSchema schema e → Keeps schema op (λ n. RowStands schema) (0 + k) e
    step k e there f = record {
      found = λ r finds cells old.
          let own : ChangeFits old.key.table e = subst (λ d. ChangeFits d e) (same_some (slice_get schema e.table) f.table old.key.table f.declared old.key.declared) f.fits in
          record {
            key = old.key;
            cells = writes_fit old.key.table (stamp_of op (0 + k)) e.writes.items r.cells old.cells own.writes;
            keyed = key_stays old.key.table e.key (annotated_in schema (place_of e)) (stamp_of op (0 + k)) e r old.key.fits own old.cells old.keyed;
          };
      made = λ inserts.
          let zero : zero_row_in schema (place_of e) ≡ zero_row f.table e.key = ap (λ o. row_from (columns_of o) (zeros_of o e.key) false) f.declared in
          subst (λ r. RowStands schema (place_of e) (changed (annotated_in schema (place_of e)) (stamp_of op (0 + k)) e r)) (sym zero)
          (record {
            key = record { table = f.table; declared = f.declared; fits = f.fits.key };
            cells = writes_fit f.table (stamp_of op (0 + k)) e.writes.items (zero_row f.table e.key).cells
                (zero_fits f.table e.key f.fits.key (λ j column at. no_lists schema accepted e.table j f.table column f.declared at)) f.fits.writes;
            keyed = zero_key schema accepted e.table f.table (annotated_in schema (place_of e)) (stamp_of op (0 + k)) e f.declared f.fits;
          });
      others = λ p r apart old. old;
    }
