-- The walk over the changes of an operation, seen from one table.
use Rattle.std.proofs.Common.{◌≡◌, ℕ, suc, ◌+◌, Bool, true, false, List, length, Option, Some, None, slice_get, refl, sym, ap, subst, ◌∙◌, arith}
use Rattle.std.specs.FinMap.{get}
use Rattle.std.specs.Option.{option_map}
use Rattle.sv_app.specs.declared.places.Place.{Place}
use Rattle.sv_app.specs.Schema.{Declaration}
use Rattle.sv_app.specs.Tables.{Row}
use Rattle.sv_effect.specs.declared.ops.Op.{Op}
use Rattle.sv_effect.specs.declared.ops.RowEffect.{RowEffect}
use Rattle.sv_effect.specs.Acts.{is_insert, is_draw}
use Rattle.sv_effect.specs.Applied.{place_of, changes_of, columns_of, zeros_of, annotated_in, applied}
use Rattle.sv_effect.specs.BareTables.{bare_row, bare}
use Rattle.sv_effect.specs.Commutes.{TablesFit}
use Rattle.sv_effect.specs.Fits.{FitsSchema, ChangeFits, OpFits, CellsFit}
use Rattle.sv_effect.specs.Laws.{HasNoLists}
use Rattle.sv_effect.specs.RowChange.{changed, zero_row, row_from}
use Rattle.sv_effect.specs.StampedTables.{StampedRow, StampedTables}
use Rattle.sv_effect.specs.Takes.{FindsRows}
use Rattle.sv_effect.proofs.SourceLaws.{get-bare}
use Rattle.sv_safety.proofs.Stamps.{stamp_of}
use Rattle.sv_safety.proofs.Walk.{RowFact, Keeps, walk}

-- an operation that fits, on tables that fit and in which it finds its rows
pub record Base (schema : List Declaration) (op : Op) (t : StampedTables) : Type 0 where
  pub none_lists : HasNoLists schema
  pub fits : OpFits schema op
  pub tables : TablesFit schema t
  pub found : FindsRows schema (changes_of op) t

same_table : (a b : Declaration) → Some a ≡ Some b → a ≡ b
same_table a b e = cc

-- what one change keeps of the rows of its table
pub record RowStep (d : Declaration) (op : Op) (P : RowFact) (n : ℕ) (e : RowEffect) : Type 0 where
  pub found : (annotated : Bool) (row : StampedRow) → is_draw e.act ≡ false → CellsFit d.columns row.cells → P n (place_of e) row → P (suc n) (place_of e) (changed annotated (stamp_of op n) e row)
  pub made : (annotated : Bool) → is_insert e.act ≡ true → P (suc n) (place_of e) (changed annotated (stamp_of op n) e (zero_row d e.key))

abbrev pub In : ℕ → RowFact → RowFact
In table P n q row = q.table ≡ table → P n q row

keeps_in : (schema : List Declaration) (op : Op) (table : ℕ) (d : Declaration) (P : RowFact) (n : ℕ) (e : RowEffect) → slice_get schema table ≡ Some d → FitsSchema schema e
    → (ChangeFits d e → e.table ≡ table → RowStep d op P n e) → ((q : Place) (row : StampedRow) → (q ≡ place_of e → ⊥) → q.table ≡ table → P n q row → P (suc n) q row) → Keeps schema op (In table P) n e
keeps_in schema op table d P n e declared fits step others = record {
  found = λ row finds cells before is. (here is).found (annotated_in schema (place_of e)) row finds (subst (λ o. CellsFit (columns_of o) row.cells) (at is) cells) (before is);
  made = λ inserts is. subst (λ row. P (suc n) (place_of e) (changed (annotated_in schema (place_of e)) (stamp_of op n) e row)) (sym (ap (λ o. row_from (columns_of o) (zeros_of o e.key) false) (at is)))
      ((here is).made (annotated_in schema (place_of e)) inserts);
  others = λ q row apart before is. others q row apart is (before is);
}
  where
    at : e.table ≡ table → slice_get schema e.table ≡ Some d
    at is = ap (slice_get schema) is ∙ declared

    here : e.table ≡ table → RowStep d op P n e
    here is = step (subst (λ x. ChangeFits x e) (same_table fits.table d (sym fits.declared ∙ at is)) fits.fits) is

-- what holds of each kept row of a table before an operation, and is kept by its changes, holds after it
pub table_walk : (schema : List Declaration) (op : Op) (t : StampedTables) → Base schema op t → (table : ℕ) (d : Declaration) (P : RowFact) → slice_get schema table ≡ Some d
    → ((n : ℕ) (e : RowEffect) → slice_get op.effects n ≡ Some e → ChangeFits d e → e.table ≡ table → RowStep d op P n e)
    → ((n : ℕ) (e : RowEffect) (q : Place) (row : StampedRow) → slice_get op.effects n ≡ Some e → (q ≡ place_of e → ⊥) → q.table ≡ table → P n q row → P (suc n) q row)
    → ((q : Place) (row : StampedRow) → q.table ≡ table → get t q ≡ Some row → P 0 q row)
    → (q : Place) (row : StampedRow) → q.table ≡ table → get (applied schema op t) q ≡ Some row → P (length op.effects) q row
table_walk schema op t b table d P declared step others before q row is at =
    let number : (0 + length op.effects) ≡ length op.effects = omega arith in
    subst (λ k. P k q row) number
    (walk schema op (In table P) 0 op.effects t b.none_lists b.fits.changes b.tables b.found
    (λ k e at fits. let here : (0 + k) ≡ k = omega arith in subst (λ m. Keeps schema op (In table P) m e) (sym here) (keeps_in schema op table d P k e declared fits (step k e at) (λ q row apart. others k e q row at apart)))
    (λ q row at is. before q row is at) q row at is)

-- the same where nothing depends on how many changes were made
pub still_walk : (schema : List Declaration) (op : Op) (t : StampedTables) → Base schema op t → (table : ℕ) (d : Declaration) (P : Place → StampedRow → Type 0) → slice_get schema table ≡ Some d
    → ((n : ℕ) (e : RowEffect) → slice_get op.effects n ≡ Some e → ChangeFits d e → e.table ≡ table → RowStep d op (λ n. P) n e)
    → ((q : Place) (row : StampedRow) → q.table ≡ table → get t q ≡ Some row → P q row)
    → (q : Place) (row : StampedRow) → q.table ≡ table → get (applied schema op t) q ≡ Some row → P q row
still_walk schema op t b table d P declared step before = table_walk schema op t b table d (λ n. P) declared step (λ n e q row at apart is p. p) before

-- ---- kept rows of bare tables

pub record BareAt (t : StampedTables) (p : Place) (row : Row) : Type 0 where
  pub stamped : StampedRow
  pub at : get t p ≡ Some stamped
  pub is : bare_row stamped ≡ row

pub from_bare : (t : StampedTables) (p : Place) (row : Row) → get (bare t) p ≡ Some row → BareAt t p row
from_bare t p row e = by (get t p) refl (sym (get-bare t p) ∙ e)
  where
    by : (o : Option StampedRow) → get t p ≡ o → option_map bare_row o ≡ Some row → BareAt t p row
    by None at e = absurd cc
    by (Some s) at e = record { stamped = s; at = at; is = let same : bare_row s ≡ row = cc in same }

pub to_bare : (t : StampedTables) (p : Place) (row : StampedRow) → get t p ≡ Some row → get (bare t) p ≡ Some (bare_row row)
to_bare t p row e = get-bare t p ∙ ap (option_map bare_row) e
