-- A set of places grows with the rows that stand there.
use Rattle.std.proofs.Common.{◌≡◌, ◌∙◌, Bool, true, false, ◌||◌, cond, List, [], ◌∷◌, ◌++◌, refl, sym, ap}
use Rattle.std.specs.BTreeSet.{BTreeSet, contains, IsEmpty}
use Rattle.std.specs.List.{list_any}
use Rattle.std.specs.Ordering.{eq_by_cmp}
use Rattle.sv_app.specs.declared.places.Place.{Place}
use Rattle.sv_app.specs.declared.requests.InitRow.{InitRow}
use Rattle.sv_app.specs.Tables.{place_cmp}
use Rattle.sv_effect.specs.TablesOfCut.{init_place, is_place}
use Rattle.sv_workload.specs.Places.{StandAt}

pub none_stand : (places : BTreeSet Place) → IsEmpty places → StandAt places []
none_stand places empty place = cc

any_more : (test : InitRow → Bool) (rows : List InitRow) (row : InitRow) → list_any test (rows ++ row ∷ []) ≡ list_any test rows || (test row || false)
any_more test [] row = refl
any_more test (other ∷ rows) row = ap (λ b. test other || b) (any_more test rows row) ∙ grouped (test other) (list_any test rows) (test row || false)
  where
    grouped : (a b c : Bool) → a || (b || c) ≡ (a || b) || c
    grouped true b c = refl
    grouped false b c = refl

pub more_stand : (places more : BTreeSet Place) (rows longer : List InitRow) (row : InitRow) → StandAt places rows
    → ((q : Place) → contains place_cmp more q ≡ cond (eq_by_cmp place_cmp (init_place row) q) true (contains place_cmp places q)) → longer ≡ rows ++ row ∷ [] → StandAt more longer
more_stand places more rows longer row stand put is place =
    put place ∙ ap (cond (is_place (init_place row) place) true) (stand place) ∙ either (is_place (init_place row) place) (list_any test rows)
    ∙ sym (any_more test rows row) ∙ ap (list_any test) (sym is)
  where
    test : InitRow → Bool
    test other = is_place (init_place other) place

    either : (a b : Bool) → cond a true b ≡ b || (a || false)
    either true true = refl
    either true false = refl
    either false true = refl
    either false false = refl
