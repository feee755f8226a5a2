-- Keys and zeros of the tables of an accepted schema.
use Rattle.std.proofs.Common.{◌≡◌, ◌≢◌, ◌∙◌, ℕ, suc, ◌+◌, ◌==◌, Bool, true, false, if◌then◌else◌, List, [], ◌∷◌, map, Some, slice_get, refl, sym, ap, arith}
use Rattle.sv_value.specs.declared.values.Key.{Key}
use Rattle.sv_value.specs.declared.values.Val.{Val}
use Rattle.sv_app.specs.declared.apps.Ident.{Ident}
use Rattle.sv_app.specs.declared.schemas.Column.{Column}
use Rattle.sv_app.specs.declared.schemas.Ty.{Ty}
use Rattle.sv_app.specs.declared.schemas.Ty.TheVariants as types
use Rattle.sv_app.specs.Accepted.{AcceptedSchema}
use Rattle.sv_app.specs.Schema.{Declaration}
use Rattle.sv_app.specs.Slots.{item}
use Rattle.sv_app.proofs.AcceptedLaws.{no_lists}
use Rattle.sv_app.proofs.TestLaws.{test_same}
use Rattle.sv_effect.specs.BareTables.{got_of}
use Rattle.sv_effect.specs.Fits.{KeyFits}
use Rattle.sv_effect.specs.RowChange.{zero_of, from_key, key_values, values_from, zero_values}
use Rattle.sv_effect.specs.RunChanges.{key_in}
use Rattle.sv_effect.specs.RunValues.{nothing}
use Rattle.sv_effect.proofs.KeyedLaws.{key_fits as key_by_types}
use Rattle.sv_trace.specs.Standing.{type_of_val, type_of_got}
use Rattle.sv_trace.proofs.WriteLaws.{has_type, type_had, got_type}

-- a value of its type for each column gives a key of the table
pub key_fits : (schema : List Declaration) → AcceptedSchema schema → (number : ℕ) (t : Declaration) (vs : List Val) → slice_get schema number ≡ Some t
    → ((c : ℕ) (k : Column) → slice_get t.columns c ≡ Some k → type_of_val (item nothing vs c) ≡ k.ty) → KeyFits t.columns t.key (key_values (key_in t.key vs))
key_fits schema accepted number t vs at fits = key_by_types schema accepted number t vs at (λ c k declared. has_type k.ty (item nothing vs c) (fits c k declared))

-- a zero is of its type
zero_type : (ty : Ty) → ty ≢ types.Ints → type_of_val (zero_of ty) ≡ ty
zero_type types.Int no_list = refl
zero_type types.Text no_list = refl
zero_type types.Ints no_list = absurd (no_list refl)

-- what a key gives a column is of its type
from_key_type : (columns : List Column) (names : List Ident) (vs : List Val) (c : ℕ) (k : Column) (zero_value : Val) → KeyFits columns names vs → slice_get columns c ≡ Some k → type_of_val zero_value ≡ k.ty
    → type_of_val (from_key names vs c zero_value) ≡ k.ty
from_key_type columns [] vs c k zero_value fits at typed = typed
from_key_type columns (name ∷ names) [] c k zero_value fits at typed = typed
from_key_type columns (name ∷ names) (v ∷ vs) c k zero_value fits at typed = by_test (name.num == c) refl (from_key_type columns names vs c k zero_value fits.1 at typed)
  where
    by_test : (b : Bool) → (name.num == c) ≡ b → type_of_val (from_key names vs c zero_value) ≡ k.ty → type_of_val (if b then v else from_key names vs c zero_value) ≡ k.ty
    by_test true e rest =
        let here : slice_get columns name.num ≡ Some k = ap (slice_get columns) (test_same name.num c e) ∙ at in
        let both : Some fits.0.0 ≡ Some k = sym fits.0.1 ∙ here in
        let same : fits.0.0 ≡ k = cc in
        type_had fits.0.0.ty v fits.0.2 ∙ ap (λ (x : Column). x.ty) same
    by_test false e rest = rest

zeros_typed : (t : Declaration) (key : Key) (c : ℕ) (columns : List Column) → KeyFits t.columns t.key (key_values key) → ((j : ℕ) → slice_get columns j ≡ slice_get t.columns (c + j))
    → ((j : ℕ) (k : Column) → slice_get columns j ≡ Some k → k.ty ≢ types.Ints) → map type_of_got (map got_of (values_from t key c columns)) ≡ map (λ (k : Column). k.ty) columns
zeros_typed t key c [] fits from no_list = refl
zeros_typed t key c (k ∷ columns) fits from no_list = λ i. one i ∷ zeros_typed t key (suc c) columns fits rest (λ j. no_list (suc j)) i
  where
    one : type_of_got (got_of (from_key t.key (key_values key) c (zero_of k.ty))) ≡ k.ty
    one =
        let here : slice_get t.columns c ≡ Some k = (let e : c ≡ (c + 0) = omega arith in ap (slice_get t.columns) e) ∙ sym (from 0) in
        got_type (from_key t.key (key_values key) c (zero_of k.ty)) ∙ from_key_type t.columns t.key (key_values key) c k (zero_of k.ty) fits here (zero_type k.ty (no_list 0 k refl))

    rest : (j : ℕ) → slice_get columns j ≡ slice_get t.columns (suc c + j)
    rest j = from (suc j) ∙ (let e : (c + suc j) ≡ (suc c + j) = omega arith in ap (slice_get t.columns) e)

-- the values of a row that isn't kept are of its columns' types
pub zero_types : (schema : List Declaration) → AcceptedSchema schema → (number : ℕ) (t : Declaration) (key : Key) → slice_get schema number ≡ Some t → KeyFits t.columns t.key (key_values key)
    → map type_of_got (map got_of (zero_values t key)) ≡ map (λ (k : Column). k.ty) t.columns
zero_types schema accepted number t key at fits =
    zeros_typed t key 0 t.columns fits (λ j. let e : j ≡ (0 + j) = omega arith in ap (slice_get t.columns) e) (λ j k here. no_lists schema accepted number j t k at here)
