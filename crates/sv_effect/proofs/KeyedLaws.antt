-- Key columns hold the key of their row: no change writes them, and a row that isn't kept shows its key.
use Rattle.std.proofs.Common.{◌≡◌, ◌≢◌, ◌∙◌, ℕ, zero, suc, ◌+◌, ◌≤◌, ◌==◌, ◌||◌, Bool, true, false, if◌then◌else◌, List, [], ◌∷◌, ◌++◌, length, Some, slice_get, refl, sym, ap, arith}
use Rattle.std.specs.Prelude.{pos, unwrap_or}
use Rattle.std.specs.List.{Contains, flat_map}
use Rattle.std.specs.Option.{option_map}
use Rattle.std.proofs.lemmas.Option.{slice_get-map}
use Rattle.sv_value.specs.declared.stamps.Stamp.{Stamp}
use Rattle.sv_value.specs.declared.values.Key.{Key}
use Rattle.sv_value.specs.declared.values.Val.{Val}
use Rattle.sv_app.specs.declared.apps.Ident.{Ident}
use Rattle.sv_app.specs.declared.gots.Got.TheVariants.{Num}
use Rattle.sv_app.specs.declared.schemas.Column.{Column}
use Rattle.sv_app.specs.declared.schemas.Merge.{Merge}
use Rattle.sv_app.specs.declared.schemas.Merge.TheVariants as merges
use Rattle.sv_app.specs.Accepted.{AcceptedSchema}
use Rattle.sv_app.specs.Conditions.{KeepsTable}
use Rattle.sv_app.specs.Schema.{Declaration}
use Rattle.sv_app.specs.Slots.{item}
use Rattle.sv_app.specs.Valid as valid
use Rattle.sv_app.specs.declared.refusals.Code.TheVariants.{Typing}
use Rattle.sv_app.specs.Typing.{fault_if, no_key, another_key, repeats, no_column, key_faults}
use Rattle.sv_app.proofs.AcceptedLaws.{all_at, front_none}
use Rattle.sv_app.proofs.ListLaws.{Stands, contained}
use Rattle.sv_app.proofs.SchemaLaws.{Named, key_right, key_column, key_plain}
use Rattle.sv_app.proofs.TestLaws.{other_test, test_same}
use Rattle.sv_effect.specs.declared.cells.Cell.{Cell}
use Rattle.sv_effect.specs.declared.ops.Write.{Write}
use Rattle.sv_effect.specs.declared.ops.RowEffect.{RowEffect}
use Rattle.sv_effect.specs.BareTables.{got_of, value_of, bare_row}
use Rattle.sv_effect.specs.Fits.{HasType, KeyFits, AreWrites, ChangeFits, CellsFit, is_key_column}
use Rattle.sv_effect.specs.Needs.{key_value}
use Rattle.sv_effect.specs.RowChange.{made, each, changed, cell_from, cells_from, zero_of, key_values, from_key, values_from, zero_row}
use Rattle.sv_effect.specs.RowsFit.{HoldsKey}
use Rattle.sv_effect.specs.RunChanges.{key_in}
use Rattle.sv_effect.specs.RunValues.{nothing}
use Rattle.sv_effect.specs.StampedTables.{StampedRow}
use Rattle.sv_effect.proofs.FitLaws.{CellAt, cell_at, get_each}

-- a column that has a value of the key
pub record IsKeyColumn (columns : List Column) (names : List Ident) (vs : List Val) (c : ℕ) (v : Val) : Type 0 where
  pub column : Column
  pub declared : slice_get columns c ≡ Some column
  pub inside : is_key_column names c ≡ true
  pub gives : (zero_value : Val) → from_key names vs c zero_value ≡ v

key_gives : (columns : List Column) (names : List Ident) (vs : List Val) (c : ℕ) (v : Val) → KeyFits columns names vs
    → (k : ℕ) → slice_get (key_value names vs c) k ≡ Some v → IsKeyColumn columns names vs c v
key_gives columns [] [] c v fits k at = absurd cc
key_gives columns [] (x ∷ vs) c v fits k at = absurd fits
key_gives columns (name ∷ names) [] c v fits k at = absurd fits
key_gives columns (name ∷ names) (x ∷ vs) c v fits k at = by (name.num == c) refl k at (key_gives columns names vs c v fits.1)
  where
    by : (b : Bool) → (name.num == c) ≡ b → (k : ℕ) → slice_get (if b then x ∷ [] else key_value names vs c) k ≡ Some v
        → ((k : ℕ) → slice_get (key_value names vs c) k ≡ Some v → IsKeyColumn columns names vs c v)
        → IsKeyColumn columns (name ∷ names) (x ∷ vs) c v
    by true is zero at ih = let same : x ≡ v = cc in record {
      column = fits.0.0;
      declared = ap (slice_get columns) (sym (test_same name.num c is)) ∙ fits.0.1;
      inside = ap (λ b. b || is_key_column names c) is;
      gives = λ z. ap (λ b. if b then x else from_key names vs c z) is ∙ same;
    }
    by true is (suc k) at ih = absurd cc
    by false is k at ih = let later : IsKeyColumn columns names vs c v = ih k at in record {
      column = later.column;
      declared = later.declared;
      inside = ap (λ b. b || is_key_column names c) is ∙ later.inside;
      gives = λ z. ap (λ b. if b then x else from_key names vs c z) is ∙ later.gives z;
    }

pub is_key_of : (table : Declaration) (key : Key) (c : ℕ) (v : Val) → KeyFits table.columns table.key (key_values key)
    → Contains (key_value table.key (key_values key) c) v
    → IsKeyColumn table.columns table.key (key_values key) c v
is_key_of table key c v fits has =
    let there : Stands (key_value table.key (key_values key) c) v = contained (key_value table.key (key_values key) c) v has in
    key_gives table.columns table.key (key_values key) c v fits there.number there.at

-- the value of a column
pub value_at : (row : StampedRow) (column : Ident) (cell : Cell) → slice_get row.cells column.num ≡ Some cell
    → valid.value_of (bare_row row) column ≡ value_of cell
value_at row column cell at = ap (λ o. unwrap_or o (Num (pos 0))) (slice_get-map value_of row.cells column.num ∙ ap (option_map value_of) at)

-- no write is to a key column
unwritten : (table : Declaration) (s : Stamp) (c : ℕ) (ws : List (ℕ × Write)) (cell : Cell) → AreWrites table ws
    → is_key_column table.key c ≡ true → made s c ws cell ≡ cell
unwritten table s c [] cell writes inside = refl
unwritten table s c (w ∷ ws) cell writes inside = rw (other_test w.0 c apart) (unwritten table s c ws cell writes.1 inside)
  where
    apart : w.0 ≡ c → ⊥
    apart e =
        let outside : is_key_column table.key c ≡ false = ap (is_key_column table.key) (sym e) ∙ writes.0.outside in
        let both : true ≡ false = sym inside ∙ outside in
        cc

pub cell_stays : (table : Declaration) (s : Stamp) (c : ℕ) (ws : List (ℕ × Write)) (cells : List Cell) (cell : Cell)
    → AreWrites table ws → is_key_column table.key c ≡ true
    → slice_get cells c ≡ Some cell → slice_get (each (λ n. made s n ws) 0 cells) c ≡ Some cell
cell_stays table s c ws cells cell writes inside at =
    let number : (0 + c) ≡ c = omega arith in
    get_each (λ n. made s n ws) 0 cells c ∙ ap (option_map (made s (0 + c) ws)) at
    ∙ (λ i. Some (made s (number i) ws cell)) ∙ ap (λ x. Some x) (unwritten table s c ws cell writes inside)

-- a change keeps the key columns
pub key_stays : (table : Declaration) (key : Key) (annotated : Bool) (s : Stamp) (e : RowEffect) (row : StampedRow)
    → KeyFits table.columns table.key (key_values key) → ChangeFits table e
    → CellsFit table.columns row.cells → HoldsKey table key (bare_row row)
    → HoldsKey table key (bare_row (changed annotated s e row))
key_stays table key annotated s e row key_fits fits cells holds column v has =
    value_at (changed annotated s e row) column at.cell (cell_stays table s column.num e.writes.items row.cells at.cell fits.writes k.inside at.is)
    ∙ sym (value_at row column at.cell at.is) ∙ holds column v has
  where
    k : IsKeyColumn table.columns table.key (key_values key) column.num v
    k = is_key_of table key column.num v key_fits has

    at : CellAt k.column row.cells column.num
    at = cell_at table.columns row.cells column.num k.column cells k.declared

-- the cell of a column of a row that isn't kept
zero_cell : (table : Declaration) (key : Key) (k : ℕ) (columns : List Column) (n : ℕ) (column : Column)
    → slice_get columns n ≡ Some column
    → slice_get (cells_from columns (values_from table key k columns)) n ≡ Some (cell_from column.merge (from_key table.key (key_values key) (k + n) (zero_of column.ty)))
zero_cell table key k [] n column e = absurd cc
zero_cell table key k (x ∷ columns) zero column e =
    let same : x ≡ column = cc in
    let number : k ≡ (k + 0) = omega arith in
    λ i. Some (cell_from (same i).merge (from_key table.key (key_values key) (number i) (zero_of (same i).ty)))
zero_cell table key k (x ∷ columns) (suc n) column e =
    let number : (suc k + n) ≡ (k + suc n) = omega arith in
    zero_cell table key (suc k) columns n column e
    ∙ (λ i. Some (cell_from column.merge (from_key table.key (key_values key) (number i) (zero_of column.ty))))

pub value_from : (merge : Merge) (v : Val) → merge ≢ merges.NumDelta → value_of (cell_from merge v) ≡ got_of v
value_from merges.Plain v apart = refl
value_from merges.Fresh v apart = refl
value_from merges.Lww v apart = refl
value_from merges.NumDelta v apart = absurd (apart refl)

pub zero_key : (schema : List Declaration) → AcceptedSchema schema
    → (number : ℕ) (table : Declaration) (annotated : Bool) (s : Stamp) (e : RowEffect)
    → slice_get schema number ≡ Some table → ChangeFits table e
    → HoldsKey table e.key (bare_row (changed annotated s e (zero_row table e.key)))
zero_key schema accepted number table annotated s e declared fits column v has =
    value_at (changed annotated s e (zero_row table e.key)) column cell
    (cell_stays table s column.num e.writes.items (zero_row table e.key).cells cell fits.writes k.inside (zero_cell table e.key 0 table.columns column.num k.column k.declared))
    ∙ value_from k.column.merge given_value (key_plain schema accepted number table column.num k.column declared k.declared k.inside)
    ∙ ap got_of ((λ i. from_key table.key (key_values e.key) (place i) (zero_of k.column.ty)) ∙ k.gives (zero_of k.column.ty))
  where
    k : IsKeyColumn table.columns table.key (key_values e.key) column.num v
    k = is_key_of table e.key column.num v fits.key has

    given_value : Val
    given_value = from_key table.key (key_values e.key) (0 + column.num) (zero_of k.column.ty)

    cell : Cell
    cell = cell_from k.column.merge given_value

    place : (0 + column.num) ≡ column.num
    place = omega arith

-- a value of its type for each column gives a key of the table
pub key_fits : (schema : List Declaration) → AcceptedSchema schema → (number : ℕ) (t : Declaration) (vs : List Val)
    → slice_get schema number ≡ Some t
    → ((c : ℕ) (column : Column) → slice_get t.columns c ≡ Some column → HasType column.ty (item nothing vs c))
    → KeyFits t.columns t.key (key_values (key_in t.key vs))
key_fits schema accepted number t vs at fits = by_key t.key refl
  where
    one : (place : ℕ) (name : Ident) → slice_get t.key place ≡ Some name
        → (column : Column) × (slice_get t.columns name.num ≡ Some column) × HasType column.ty (item nothing vs name.num)
    one place name at_name = let c : Named t name = key_column schema accepted number t place name at at_name in (c.column, c.declared, fits name.num c.column c.declared)

    by_key : (key : List Ident) → t.key ≡ key → KeyFits t.columns key (key_values (key_in key vs))
    by_key [] e = absurd (no_none (key_right schema accepted number t at))
      where
        no_none : key_faults t ≡ [] → ⊥
        no_none right =
            let none : no_key t ≡ [] = front_none (no_key t) (another_key t t.second_key) (front_none (no_key t ++ another_key t t.second_key) (repeats t.key)
            (front_none (no_key t ++ another_key t t.second_key ++ repeats t.key) (flat_map (λ name. no_column t name) t.key) right)) in
            let bad : fault_if true t.name.spot Typing ≡ [] = ap (λ (k : List Ident). fault_if (length k == 0) t.name.spot Typing) (sym e) ∙ none in
            absurd cc
    by_key (a ∷ []) e = (one 0 a (ap (λ k. slice_get k 0) e), tt)
    by_key (a ∷ b ∷ []) e = (one 0 a (ap (λ k. slice_get k 0) e), (one 1 b (ap (λ k. slice_get k 1) e), tt))
    by_key (a ∷ b ∷ c ∷ more) e = absurd (too_long (all_at KeepsTable schema number t accepted.grammar.each at).key)
      where
        too_long : length t.key ≤ 2 → ⊥
        too_long le = omega (arith, le, ap length e)
