-- A row that a change left hides the one before it; and a row that was told of is the one that stands there.
use Rattle.std.proofs.Common.{◌≡◌, Bool, true, false, cond, List, ◌∷◌, Option, Some, None, refl, sym, ap, subst, ◌∙◌}
use Rattle.std.specs.FinMap.{get, get-insert, get-empty, empty}
use Rattle.sv_app.specs.declared.gots.Got.{Got}
use Rattle.sv_app.specs.declared.places.Place.{Place}
use Rattle.sv_app.specs.Schema.{Declaration}
use Rattle.sv_app.specs.Tables.{place_cmp, Row, Tables}
use Rattle.sv_app.proofs.PlaceLaws.{place_total}
use Rattle.sv_effect.specs.declared.left.LeftRow.{LeftRow}
use Rattle.sv_effect.specs.Agrees.{place_at, seen_in, seen_at}
use Rattle.sv_effect.specs.Faces.{Face}
use Rattle.sv_effect.specs.Follows.{Follows}
use Rattle.sv_effect.specs.Overlays.{over, left_row, left_rows, told_row, FitsUnder, FoundFits}
use Rattle.sv_effect.specs.Reads.{SeenValue, ReadValue}
use Rattle.sv_effect.specs.RowsFit.{RowFits, SeenFits}
use Rattle.sv_effect.specs.TablesOfCut.{is_place}
use Rattle.sv_effect.proofs.FollowLaws.{quiet, so}

pub left_here : (e : Place × LeftRow) (es : List (Place × LeftRow)) (t : Tables) (p : Place) → is_place p e.0 ≡ true → get (over (e ∷ es) t) p ≡ Some (left_row e.1)
left_here e es t p h = get-insert place_total (over es t) e.0 (left_row e.1) p ∙ ap (λ b. cond b (Some (left_row e.1)) (get (over es t) p)) h

pub left_past : (e : Place × LeftRow) (es : List (Place × LeftRow)) (t : Tables) (p : Place) → is_place p e.0 ≡ false → get (over (e ∷ es) t) p ≡ get (over es t) p
left_past e es t p h = get-insert place_total (over es t) e.0 (left_row e.1) p ∙ ap (λ b. cond b (Some (left_row e.1)) (get (over es t) p)) h

pub told_back : (o : Option Row) → told_row (seen_in o) ≡ o
told_back None = refl
told_back (Some row) = refl

-- a change left the row
pub look_left : (o n : Face) (a b : Option (List ReadValue)) (left : List (Place × LeftRow)) (p : Place) (found : Row) (row : Option LeftRow)
    → n ≡ o → b ≡ a → ((t : Tables) → get (over left t) p ≡ Some found) → left_rows row ≡ Some found → Follows o n a b (λ t. get (over left t) p ≡ left_rows row)
look_left o n a b left p found row same stands h e = quiet o n a b _ same stands (λ t. h t ∙ sym e)

-- the row before is asked for
pub look_behind : (o n : Face) (a b : Option (List ReadValue)) (left : List (Place × LeftRow)) (p : Place) (seen : SeenValue) (row : Option LeftRow)
    → Follows o n a b (λ t. seen_at t (place_at p.table p.key) ≡ seen) → ((t : Tables) → get (over left t) p ≡ get t p) → left_rows row ≡ told_row seen
    → Follows o n a b (λ t. get (over left t) p ≡ left_rows row)
look_behind o n a b left p seen row f h e = so o n a b _ _ f (λ t g. h t ∙ sym (told_back (get t p)) ∙ ap told_row g ∙ sym e)

-- what was found is what changes left, or fits as it was told
pub found_left : (is_of : List Declaration → Type 0) (left : List (Place × LeftRow)) (p : Place) (found : Row) (row : Option LeftRow)
    → ((t : Tables) → get (over left t) p ≡ Some found) → left_rows row ≡ Some found → FoundFits is_of left p (left_rows row)
found_left is_of left p found row h e = record { fits = λ schema is. subst (λ o. FitsUnder schema p o (left_rows row)) (sym (h empty)) e }

told_fits : (schema : List Declaration) (p : Place) (kept present : Bool) (values : List Got) → RowFits schema p kept present values
    → SeenFits schema p (seen_in (told_row (record { kept = kept; present = present; values = values })))
told_fits schema p true present values fits = fits
told_fits schema p false present values fits = (refl, refl)

pub found_told : (is_of : List Declaration → Type 0) (left : List (Place × LeftRow)) (p : Place) (seen : SeenValue) (row : Option LeftRow)
    → ((t : Tables) → get (over left t) p ≡ get t p) → left_rows row ≡ told_row seen → ((schema : List Declaration) → is_of schema → SeenFits schema (place_at p.table p.key) seen)
    → FoundFits is_of left p (left_rows row)
found_told is_of left p seen row h e fits = record {
  fits = λ schema is. subst (λ o. FitsUnder schema p o (left_rows row)) (sym (h empty ∙ get-empty place_cmp p))
      (subst (λ o. SeenFits schema p (seen_in o)) (sym e) (told_fits schema p seen.kept seen.present seen.values (fits schema is)));
}

-- what holds of what changes left, and of all that fits, holds of what was found
pub found_by : (P : Option Row → Type 0) (is_of : List Declaration → Type 0) (schema : List Declaration) (left : List (Place × LeftRow)) (p : Place) (found : Option Row) → FoundFits is_of left p found → is_of schema
    → P (get (over left empty) p) → (SeenFits schema p (seen_in found) → P found) → P found
found_by P is_of schema left p found fit is kept fitting = split (get (over left empty) p) (fit.fits schema is) kept
  where
    split : (o : Option Row) → FitsUnder schema p o found → P o → P found
    split None fits h = fitting fits
    split (Some row) same h = subst P (sym same) h

pub ruleset looking = (left_here, left_past, look_left, look_behind)
