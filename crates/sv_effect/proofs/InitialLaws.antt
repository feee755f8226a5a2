-- The tables of the initial rows: what stands at a place, and that each row stands under its key.
use Rattle.std.proofs.Common.{◌≡◌, ◌∙◌, ℕ, zero, suc, ◌||◌, ◌==◌, Bool, true, false, if◌then◌else◌, List, [], ◌∷◌, ◌++◌, map, Option, Some, None, slice_get, refl, sym, ap, subst}
use Rattle.std.specs.FinMap.{get}
use Rattle.std.specs.List.{Contains}
use Rattle.sv_value.specs.declared.values.Val.{Val}
use Rattle.sv_app.specs.declared.apps.Ident.{Ident}
use Rattle.sv_app.specs.declared.places.Place.{Place}
use Rattle.sv_app.specs.declared.requests.InitRow.{InitRow}
use Rattle.sv_app.specs.declared.schemas.Column.{Column}
use Rattle.sv_app.specs.Accepted.{AcceptedSchema}
use Rattle.sv_app.specs.Schema.{Declaration}
use Rattle.sv_app.specs.Slots.{item}
use Rattle.sv_app.proofs.ListLaws.{Stands, contained}
use Rattle.sv_app.proofs.SchemaLaws.{key_plain}
use Rattle.sv_app.proofs.TestLaws.{or_none, test_same}
use Rattle.sv_effect.specs.StampedTables.{StampedRow}
use Rattle.sv_effect.specs.RowChange.{cell_from, cells_from, row_from, key_values}
use Rattle.sv_effect.specs.Applied.{columns_in, annotated_in, zeros_in}
use Rattle.sv_effect.specs.BareTables.{got_of, bare_row}
use Rattle.sv_effect.specs.Cut.{empty}
use Rattle.sv_effect.specs.Fits.{KeyFits, CellsFit}
use Rattle.sv_effect.specs.Initial.{ValuesFit, InitFits}
use Rattle.sv_effect.specs.Needs.{key_value}
use Rattle.sv_effect.specs.RowsFit.{HoldsKey, RowStands}
use Rattle.sv_effect.specs.RunChanges.{key_in}
use Rattle.sv_effect.specs.RunValues.{nothing}
use Rattle.sv_effect.specs.TablesOfCut.{init_place, initial, values_or, is_there, row_at, named_by, all_to, changes_at, tables_held}
use Rattle.sv_effect.proofs.KeptLaws.{from_fits}
use Rattle.sv_effect.proofs.KeyedLaws.{IsKeyColumn, is_key_of, value_at, value_from}
use Rattle.sv_effect.proofs.PlaceListLaws.{among, among-append}
use Rattle.sv_effect.proofs.TableLaws.{get-tables_by, row-bare}

-- the row at a place, of what stands there from the start
abbrev pub start_row : List Declaration → Place → Option (List Val) → StampedRow
start_row schema q o = row_from (columns_in schema q) (values_or (zeros_in schema q) o) (is_there o)

none_named : all_to (λ o. named_by (empty o)) 9 ≡ []
unfolding all_to
none_named = refl

pub get-start : (schema : List Declaration) (init : List InitRow) (q : Place)
    → get (tables_held schema init empty) q ≡ (if among q (map init_place init) then Some (start_row schema q (initial q init)) else None)
get-start schema init q =
    get-tables_by (map init_place init ++ all_to (λ o. named_by (empty o)) 9) (row_at schema init empty) q
    ∙ (λ i. if places i then Some (row i) else None)
  where
    places : among q (map init_place init ++ all_to (λ o. named_by (empty o)) 9) ≡ among q (map init_place init)
    places = among-append q (map init_place init) (all_to (λ o. named_by (empty o)) 9)
        ∙ ap (λ l. among q (map init_place init) || among q l) none_named ∙ or_none (among q (map init_place init))

    row : row_at schema init empty q ≡ start_row schema q (initial q init)
    row = row-bare (annotated_in schema q) (columns_in schema q) (values_or (zeros_in schema q) (initial q init)) (is_there (initial q init)) (changes_at q empty) (λ o lt. refl)

pub cells_fit : (columns : List Column) (vs : List Val) → ValuesFit columns vs
    → CellsFit columns (cells_from columns vs)
cells_fit [] [] fits = tt
cells_fit [] (v ∷ vs) fits = absurd fits
cells_fit (column ∷ columns) [] fits = absurd fits
cells_fit (column ∷ columns) (v ∷ vs) fits = (from_fits column v column.merge refl fits.0, cells_fit columns vs fits.1)

-- the cell of a column is made of its value
cell_of : (columns : List Column) (vs : List Val) (n : ℕ) (column : Column) → ValuesFit columns vs
    → slice_get columns n ≡ Some column
    → slice_get (cells_from columns vs) n ≡ Some (cell_from column.merge (item nothing vs n))
cell_of [] vs n column fits e = absurd cc
cell_of (x ∷ columns) [] n column fits e = absurd fits
cell_of (x ∷ columns) (v ∷ vs) zero column fits e = let same : x ≡ column = cc in λ i. Some (cell_from (same i).merge v)
cell_of (x ∷ columns) (v ∷ vs) (suc n) column fits e = cell_of columns vs n column fits.1 e

-- a key that was made of values gives them back
gives_back : (names : List Ident) (all : List Val) (c k : ℕ) (v : Val)
    → slice_get (key_value names (map (λ name. item nothing all name.num) names) c) k ≡ Some v → item nothing all c ≡ v
gives_back [] all c k v at = absurd cc
gives_back (name ∷ names) all c k v at = by (name.num == c) refl k at (λ j later. gives_back names all c j v later)
  where
    by : (b : Bool) → (name.num == c) ≡ b → (k : ℕ)
        → slice_get (if b then item nothing all name.num ∷ [] else key_value names (map (λ n. item nothing all n.num) names) c) k ≡ Some v
        → ((j : ℕ) → slice_get (key_value names (map (λ n. item nothing all n.num) names) c) j ≡ Some v → item nothing all c ≡ v) → item nothing all c ≡ v
    by true is zero at ih = let same : item nothing all name.num ≡ v = cc in ap (item nothing all) (sym (test_same name.num c is)) ∙ same
    by true is (suc k) at ih = absurd cc
    by false is k at ih = ih k at

shows : (columns : List Column) (names : List Ident) (all : List Val) (c k : ℕ) (v : Val)
    → KeyFits columns names (key_values (key_in names all))
    → slice_get (key_value names (key_values (key_in names all)) c) k ≡ Some v → item nothing all c ≡ v
shows columns [] all c k v fits at = absurd fits
shows columns (a ∷ []) all c k v fits at = gives_back (a ∷ []) all c k v at
shows columns (a ∷ b ∷ []) all c k v fits at = gives_back (a ∷ b ∷ []) all c k v at
shows columns (a ∷ b ∷ x ∷ more) all c k v fits at = absurd fits.1.1

-- an initial row stands under its key
pub init_stands : (schema : List Declaration) (x : InitRow) → AcceptedSchema schema → (fits : InitFits schema x)
    → RowStands schema (init_place x) (row_from fits.table.columns x.values true)
init_stands schema x accepted fits = record {
  key = record { table = fits.table; declared = fits.declared; fits = fits.key };
  cells = cells_fit fits.table.columns x.values fits.values;
  keyed = keyed;
}
  where
    keyed : HoldsKey fits.table x.key (bare_row (row_from fits.table.columns x.values true))
    keyed column v has =
        value_at (row_from fits.table.columns x.values true) column (cell_from k.column.merge (item nothing x.values column.num)) (cell_of fits.table.columns x.values column.num k.column fits.values k.declared)
        ∙ value_from k.column.merge (item nothing x.values column.num) (key_plain schema accepted x.table fits.table column.num k.column fits.declared k.declared k.inside)
        ∙ ap got_of shown
      where
        k : IsKeyColumn fits.table.columns fits.table.key (key_values x.key) column.num v
        k = is_key_of fits.table x.key column.num v fits.key has

        there : Stands (key_value fits.table.key (key_values (key_in fits.table.key x.values)) column.num) v
        there = contained _ v (subst (λ y. Contains (key_value fits.table.key (key_values y) column.num) v) fits.keyed has)

        shown : item nothing x.values column.num ≡ v
        shown = shows fits.table.columns fits.table.key x.values column.num there.number v (subst (λ y. KeyFits fits.table.columns fits.table.key (key_values y)) fits.keyed fits.key) there.at
