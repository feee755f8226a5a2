-- The initial tables have rows of the schema.
use Rattle.std.proofs.Common.{◌≡◌, ◌∙◌, ℕ, suc, ◌≤◌, ◌||◌, if◌then◌else◌, Bool, true, false, List, [], ◌∷◌, map, Option, Some, None, refl, sym, ap, subst, arith}
use Rattle.std.specs.List.{All}
use Rattle.std.proofs.lemmas.Map.Views.{tells_apart}
use Rattle.sv_value.specs.declared.values.Val.{Val}
use Rattle.sv_app.specs.declared.places.Place.{Place}
use Rattle.sv_app.specs.declared.requests.InitRow.{InitRow}
use Rattle.sv_app.specs.Accepted.{AcceptedSchema}
use Rattle.sv_app.specs.Schema.{Declaration}
use Rattle.sv_app.proofs.PlaceLaws.{exact_places}
use Rattle.sv_effect.specs.Applied.{columns_of, columns_in, zeros_in}
use Rattle.sv_effect.specs.Initial.{InitFits}
use Rattle.sv_effect.specs.Newer.{IsOlder}
use Rattle.sv_effect.specs.RowChange.{row_from}
use Rattle.sv_effect.specs.RowsFit.{RowStands}
use Rattle.sv_effect.specs.StampedTables.{StampedRow}
use Rattle.sv_effect.specs.TablesOfCut.{is_place, init_place, initial, values_or}
use Rattle.sv_effect.proofs.InitialLaws.{start_row, get-start, init_stands}
use Rattle.sv_effect.proofs.PlaceListLaws.{among}
use Rattle.sv_safety.specs.Laws.{InitialStand}
use Rattle.sv_safety.proofs.StampLaws.{zero_cells}

-- a row that stands there from the start
one_stands : (schema : List Declaration) (x : InitRow) (q : Place) → AcceptedSchema schema → InitFits schema x → q ≡ init_place x → RowStands schema q (start_row schema q (Some x.values))
one_stands schema x q accepted fits here = subst (λ p. RowStands schema p (start_row schema p (Some x.values))) (sym here)
    (subst (λ cs. RowStands schema (init_place x) (row_from cs x.values true)) (sym (ap columns_of fits.declared)) (init_stands schema x accepted fits))

same_row : (a b : StampedRow) → Some a ≡ Some b → a ≡ b
same_row a b e = cc

start_stands : (schema : List Declaration) (init : List InitRow) (q : Place) (row : StampedRow) → AcceptedSchema schema → All (InitFits schema) init
    → (if among q (map init_place init) then Some (start_row schema q (initial q init)) else None) ≡ Some row → RowStands schema q row
start_stands schema [] q row accepted all e = absurd cc
start_stands schema (x ∷ init) q row accepted all e = by (is_place q (init_place x)) refl e (start_stands schema init q row accepted (λ i d lt. all (suc i) d (omega (arith, lt))))
  where
    by : (b : Bool) → is_place q (init_place x) ≡ b → (if b || among q (map init_place init) then Some (start_row schema q (if b then Some x.values else initial q init)) else None) ≡ Some row
        → ((if among q (map init_place init) then Some (start_row schema q (initial q init)) else None) ≡ Some row → RowStands schema q row) → RowStands schema q row
    by true is e ih = subst (RowStands schema q) (same_row _ row e) (one_stands schema x q accepted (all 0 x (omega arith)) (tells_apart exact_places q (init_place x) is))
    by false is e ih = ih e

start_older : (schema : List Declaration) (q : Place) (b : Bool) (o : Option (List Val)) (row : StampedRow) (time : ℕ) → 1 ≤ time → (if b then Some (start_row schema q o) else None) ≡ Some row → IsOlder time row
start_older schema q false o row time some e = absurd cc
start_older schema q true o row time some e = subst (IsOlder time) (same_row _ row e) (record { mark = omega (arith, some); cells = zero_cells time some (columns_in schema q) (values_or (zeros_in schema q) o) })

pub initial_stand : InitialStand
initial_stand schema init accepted all = record {
  rows = λ q row at. start_stands schema init q row accepted all (sym (get-start schema init q) ∙ at);
  older = λ time some q row at. start_older schema q (among q (map init_place init)) (initial q init) row time some (sym (get-start schema init q) ∙ at);
}
