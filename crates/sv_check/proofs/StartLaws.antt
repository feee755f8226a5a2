-- The tables that a store starts with are those of the initial rows.
use Rattle.std.proofs.Common.{◌≡◌, ℕ, suc, ◌||◌, if◌then◌else◌, cond, Bool, true, false, List, [], ◌∷◌, Some, None, slice_get, refl, sym, ap, subst, ◌∙◌, arith}
use Rattle.std.specs.Prelude.{map, All}
use Rattle.std.specs.Option.{option_map}
use Rattle.std.specs.FinMap.{same_map}
use Rattle.std.proofs.lemmas.Map.Views.{tells_apart}
use Rattle.sv_value.specs.declared.values.Val.{Val}
use Rattle.sv_value.specs.declared.values.Val.TheVariants.{Int, Text}
use Rattle.sv_app.specs.declared.places.Place.{Place}
use Rattle.sv_app.specs.declared.requests.InitRow.{InitRow}
use Rattle.sv_app.specs.declared.schemas.Column.{Column}
use Rattle.sv_app.specs.declared.schemas.Merge.{Merge}
use Rattle.sv_app.specs.declared.schemas.Merge.TheVariants.{Plain, Lww, NumDelta, Fresh}
use Rattle.sv_app.specs.declared.schemas.Ty.{Ty}
use Rattle.sv_app.specs.declared.schemas.Ty.TheVariants as types
use Rattle.sv_app.specs.Accepted.{AcceptedSchema}
use Rattle.sv_app.specs.Schema.{Declaration}
use Rattle.sv_app.proofs.AcceptedLaws.{counter_is_int}
use Rattle.sv_app.proofs.PlaceLaws.{place_total, exact_places}
use Rattle.sv_effect.specs.RowChange.{cell_from, cells_from}
use Rattle.sv_effect.specs.Applied.{columns_of, columns_in}
use Rattle.sv_effect.specs.BareTables.{got_of, value_of, bare_row, bare}
use Rattle.sv_effect.specs.Cut.{empty}
use Rattle.sv_effect.specs.Fits.{HasType}
use Rattle.sv_effect.specs.Initial.{ValuesFit, InitFits}
use Rattle.sv_effect.specs.TablesOfCut.{is_place, init_place, initial, tables_held}
use Rattle.sv_effect.proofs.InitialLaws.{start_row, get-start}
use Rattle.sv_effect.proofs.PlaceListLaws.{among}
use Rattle.sv_effect.proofs.SourceLaws.{get-bare}
use Rattle.sv_check.specs.Initial.{initial_row, initial_tables, StoresStart}
use Rattle.sv_check.proofs.InitialLaws.{initial_at, get-initial}

-- counters are integers
abbrev CountInts : List Column → Type 0
CountInts columns = (place : ℕ) (column : Column) → slice_get columns place ≡ Some column → column.merge ≡ NumDelta → column.ty ≡ types.Int

cell-value : (merge : Merge) (ty : Ty) (v : Val) → HasType ty v → (merge ≡ NumDelta → ty ≡ types.Int) → value_of (cell_from merge v) ≡ got_of v
cell-value Plain ty v fits count = refl
cell-value Fresh ty v fits count = refl
cell-value Lww ty v fits count = refl
cell-value NumDelta ty (Int n) fits count = refl
cell-value NumDelta ty (Text t) fits count = absurd (subst (λ k. HasType k (Text t)) (count refl) fits)

row-values : (columns : List Column) (vs : List Val) → ValuesFit columns vs → CountInts columns → map value_of (cells_from columns vs) ≡ map got_of vs
row-values [] [] fits count = refl
row-values [] (v ∷ vs) fits count = absurd fits
row-values (c ∷ columns) [] fits count = absurd fits
row-values (c ∷ columns) (v ∷ vs) fits count = λ i. cell-value c.merge c.ty v fits.0 (count 0 c refl) i ∷ row-values columns vs fits.1 (λ place column at. count (suc place) column at) i

first_fits : {A : Type 0} (P : A → Type 0) (x : A) (xs : List A) → All P (x ∷ xs) → P x
first_fits P x xs all = all 0 x (omega arith)

rest_fits : {A : Type 0} (P : A → Type 0) (x : A) (xs : List A) → All P (x ∷ xs) → All P xs
rest_fits P x xs all = λ i d lt. all (suc i) d (omega (arith, lt))

start-initial : (schema : List Declaration) (x : InitRow) (q : Place) → AcceptedSchema schema → InitFits schema x → q ≡ init_place x → bare_row (start_row schema q (Some x.values)) ≡ initial_row x
start-initial schema x q accepted fits here = λ i. record { values = values i; present = true }
  where
    columns : columns_in schema q ≡ fits.table.columns
    columns = ap (columns_in schema) here ∙ ap columns_of fits.declared

    values : map value_of (cells_from (columns_in schema q) x.values) ≡ map got_of x.values
    values = ap (λ cs. map value_of (cells_from cs x.values)) columns
        ∙ row-values fits.table.columns x.values fits.values (λ place column at. counter_is_int schema accepted x.table place fits.table column fits.declared at)

start-at : (schema : List Declaration) (init : List InitRow) (q : Place) → AcceptedSchema schema → All (InitFits schema) init
    → option_map bare_row (if among q (map init_place init) then Some (start_row schema q (initial q init)) else None) ≡ initial_at q init
start-at schema [] q accepted fits = refl
start-at schema (x ∷ init) q accepted fits = by (is_place q (init_place x)) refl (start-at schema init q accepted (rest_fits (InitFits schema) x init fits))
  where
    by : (b : Bool) → is_place q (init_place x) ≡ b → option_map bare_row (if among q (map init_place init) then Some (start_row schema q (initial q init)) else None) ≡ initial_at q init
        → option_map bare_row (if b || among q (map init_place init) then Some (start_row schema q (if b then Some x.values else initial q init)) else None) ≡ cond b (Some (initial_row x)) (initial_at q init)
    by true e ih = ap (λ r. Some r) (start-initial schema x q accepted (first_fits (InitFits schema) x init fits) (tells_apart exact_places q (init_place x) e))
    by false e ih = ih

pub stores_start : StoresStart
stores_start schema init accepted fits = same_map place_total exact_places (bare (tables_held schema init empty)) (initial_tables init) (λ q.
    get-bare (tables_held schema init empty) q ∙ ap (option_map bare_row) (get-start schema init q) ∙ start-at schema init q accepted fits ∙ sym (get-initial init q))
