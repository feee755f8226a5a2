-- What stands in the tables of initial rows.
use Rattle.std.proofs.Common.{◌≡◌, ℕ, zero, suc, ◌<◌, ◌||◌, cond, Bool, true, false, List, [], ◌∷◌, Option, Some, None, slice_get, refl, sym, ap, ◌∙◌, arith}
use Rattle.std.specs.Option.{is_some}
use Rattle.std.specs.FinMap.{get, get-insert, get-empty}
use Rattle.std.proofs.lemmas.Cmp.{eq_by_cmp_equiv}
use Rattle.std.proofs.lemmas.Map.Views.{tells_apart}
use Rattle.sv_app.specs.declared.places.Place.{Place}
use Rattle.sv_app.specs.declared.requests.InitRow.{InitRow}
use Rattle.sv_app.specs.Tables.{Row, place_cmp}
use Rattle.sv_app.proofs.AcceptedLaws.{all_at}
use Rattle.sv_app.proofs.PlaceLaws.{place_total, exact_places}
use Rattle.sv_effect.specs.Initial.{AreDistinct}
use Rattle.sv_effect.specs.TablesOfCut.{is_place, init_place}
use Rattle.sv_check.specs.Initial.{initial_row, initial_tables}
use Rattle.sv_check.specs.Tests.{is_there}

-- the row at a place, if one stands there
abbrev pub initial_at : Place → List InitRow → Option Row
initial_at p [] = None
initial_at p (row ∷ rows) = cond (is_place p (init_place row)) (Some (initial_row row)) (initial_at p rows)

pub get-initial : (init : List InitRow) (p : Place) → get (initial_tables init) p ≡ initial_at p init
get-initial [] p = get-empty place_cmp p
get-initial (row ∷ rows) p =
    get-insert place_total (initial_tables rows) (init_place row) (initial_row row) p ∙ ap (cond (is_place p (init_place row)) (Some (initial_row row))) (get-initial rows p)

-- a row of the tables is one of the initial rows
pub record IsInitial (init : List InitRow) (p : Place) (row : Row) : Type 0 where
  pub number : ℕ
  pub from : InitRow
  pub at : slice_get init number ≡ Some from
  pub place : init_place from ≡ p
  pub is : row ≡ initial_row from

pub initial_from : (init : List InitRow) (p : Place) (row : Row) → initial_at p init ≡ Some row → IsInitial init p row
initial_from [] p row is = absurd cc
initial_from (x ∷ init) p row is = split (is_place p (init_place x)) refl is (initial_from init p row)
  where
    split : (b : Bool) → is_place p (init_place x) ≡ b → cond b (Some (initial_row x)) (initial_at p init) ≡ Some row → (initial_at p init ≡ Some row → IsInitial init p row)
        → IsInitial (x ∷ init) p row
    split true here e ih = record { number = 0; from = x; at = refl; place = sym (tells_apart exact_places p (init_place x) here); is = cc }
    split false here e ih = let later : IsInitial init p row = ih e in record { number = suc later.number; from = later.from; at = later.at; place = later.place; is = later.is }

pub kept_from : (init : List InitRow) (p : Place) (row : Row) → get (initial_tables init) p ≡ Some row → IsInitial init p row
kept_from init p row is = initial_from init p row (sym (get-initial init p) ∙ is)

same_place : (p : Place) → is_place p p ≡ true
same_place p = (eq_by_cmp_equiv place_total).refl p

apart : (p q : Place) → (p ≡ q → ⊥) → is_place p q ≡ false
apart p q differ = split (is_place p q) refl
  where
    split : (b : Bool) → is_place p q ≡ b → b ≡ false
    split true e = absurd (differ (tells_apart exact_places p q e))
    split false e = refl

-- each initial row stands in the tables
pub initial_stands : (init : List InitRow) (k : ℕ) (x : InitRow) → AreDistinct init → slice_get init k ≡ Some x → initial_at (init_place x) init ≡ Some (initial_row x)
initial_stands [] k x distinct at = absurd cc
initial_stands (y ∷ init) zero x distinct at =
    let same : y ≡ x = cc in
    ap (λ b. cond b (Some (initial_row y)) (initial_at (init_place x) init)) (ap (λ z. is_place (init_place x) (init_place z)) same ∙ same_place (init_place x)) ∙ ap (λ z. Some (initial_row z)) same
initial_stands (y ∷ init) (suc k) x distinct at =
    ap (λ b. cond b (Some (initial_row y)) (initial_at (init_place x) init))
    (apart (init_place x) (init_place y) (λ e. all_at (λ other. init_place y ≡ init_place other → ⊥) init k x distinct.0 at (sym e)))
    ∙ initial_stands init k x distinct.1 at

pub kept_at : (init : List InitRow) (k : ℕ) (x : InitRow) → AreDistinct init → slice_get init k ≡ Some x → get (initial_tables init) (init_place x) ≡ Some (initial_row x)
kept_at init k x distinct at = get-initial init (init_place x) ∙ initial_stands init k x distinct at

-- no two stand at one place
pub one_place : (init : List InitRow) (j k : ℕ) (x y : InitRow) → AreDistinct init → slice_get init j ≡ Some x → slice_get init k ≡ Some y → j < k → init_place x ≡ init_place y → ⊥
one_place [] j k x y distinct at_j at_k less same = cc
one_place (z ∷ init) zero (suc k) x y distinct at_j at_k less same =
    let first : z ≡ x = cc in
    all_at (λ other. init_place z ≡ init_place other → ⊥) init k y distinct.0 at_k (ap init_place first ∙ same)
one_place (z ∷ init) zero zero x y distinct at_j at_k less same = omega (arith, less)
one_place (z ∷ init) (suc j) zero x y distinct at_j at_k less same = omega (arith, less)
one_place (z ∷ init) (suc j) (suc k) x y distinct at_j at_k less same = one_place init j k x y distinct.1 at_j at_k (omega (arith, less)) same

pub there-initial : (init : List InitRow) (p : Place) → is_there p init ≡ is_some (initial_at p init)
there-initial [] p = refl
there-initial (x ∷ init) p = split (is_place p (init_place x)) (there-initial init p)
  where
    split : (b : Bool) → is_there p init ≡ is_some (initial_at p init) → (b || is_there p init) ≡ is_some (cond b (Some (initial_row x)) (initial_at p init))
    split true ih = refl
    split false ih = ih
