-- Changes that are made one after the other.
use Rattle.std.proofs.Common.{◌≡◌, ℕ, ◌<◌, ◌≤◌, ◌+◌, List, [], ◌∷◌, map, length, drop, get_or, Option, sym, ap, ◌∙◌}
use Rattle.std.proofs.lemmas.List.{at_drop_more, at_drop_all}
use Rattle.std.specs.FinMap.{get, insert}
use Rattle.sv_app.specs.declared.places.Place.{Place}
use Rattle.sv_app.specs.Schema.{Declaration}
use Rattle.sv_effect.specs.declared.ops.RowEffect.{RowEffect}
use Rattle.sv_effect.specs.declared.left.LeftRow.{LeftRow}
use Rattle.sv_effect.specs.Faces.{Face}
use Rattle.sv_effect.specs.Follows.{Follows}
use Rattle.sv_effect.specs.Reads.{ReadValue}
use Rattle.sv_effect.specs.RunChanges.{Effect, effect_of}
use Rattle.sv_effect.specs.Effects.{row_after, with_effect, with_effects}
use Rattle.sv_effect.specs.Overlays.{over, left_row, left_rows}
use Rattle.sv_effect.proofs.FollowLaws.{quiet, so, next_to}

-- a row was looked at, and the row after the change put before the others
pub change_made : (o n : Face) (a b : Option (List ReadValue)) (schema : List Declaration) (e : Effect) (old new : List (Place × LeftRow)) (kept : Option LeftRow) (row : LeftRow)
    → Follows o n a b (λ t. get (over old t) e.place ≡ left_rows kept) → left_row row ≡ row_after schema e (left_rows kept) → new ≡ (e.place, row) ∷ old
    → Follows o n a b (λ t. over new t ≡ with_effect schema e (over old t))
change_made o n a b schema e old new kept row f made is = so o n a b _ _ f (λ t looked.
    ap (λ l. over l t) is ∙ ap (insert (over old t) e.place) (made ∙ ap (row_after schema e) (sym looked)))

-- no change was made so far
pub none_made : (o n : Face) (a b : Option (List ReadValue)) (schema : List Declaration) (es : List RowEffect) (left : List (Place × LeftRow)) → n ≡ o → b ≡ a → left ≡ []
    → Follows o n a b (λ t. with_effects schema (map effect_of (drop 0 es)) (over left t) ≡ with_effects schema (map effect_of es) t)
none_made o n a b schema es left same stands is = quiet o n a b _ same stands (λ t. ap (λ l. with_effects schema (map effect_of es) (over l t)) is)

pub one_made : (o m n : Face) (a b c : Option (List ReadValue)) (schema : List Declaration) (es : List RowEffect) (i : ℕ) (e : RowEffect) (old new : List (Place × LeftRow)) → i < length es
    → e ≡ get_or es i e
    → Follows o m a b (λ t. with_effects schema (map effect_of (drop i es)) (over old t) ≡ with_effects schema (map effect_of es) t)
    → Follows m n b c (λ t. over new t ≡ with_effect schema (effect_of e) (over old t))
    → Follows o n a c (λ t. with_effects schema (map effect_of (drop (i + 1) es)) (over new t) ≡ with_effects schema (map effect_of es) t)
one_made o m n a b c schema es i e old new less is f g = next_to o m n a b c _ _ _ f g (λ t before made.
    ap (with_effects schema (map effect_of (drop (i + 1) es))) (made ∙ ap (λ x. with_effect schema (effect_of x) (over old t)) is)
    ∙ sym (at_drop_more (λ l. with_effects schema (map effect_of l) (over old t)) es i e less) ∙ before)

pub all_made : (o n : Face) (a b : Option (List ReadValue)) (schema : List Declaration) (es : List RowEffect) (i : ℕ) (left : List (Place × LeftRow)) → length es ≤ i
    → Follows o n a b (λ t. with_effects schema (map effect_of (drop i es)) (over left t) ≡ with_effects schema (map effect_of es) t)
    → Follows o n a b (λ t. over left t ≡ with_effects schema (map effect_of es) t)
all_made o n a b schema es i left le f = so o n a b _ _ f (λ t made. sym (at_drop_all (λ l. with_effects schema (map effect_of l) (over left t)) es i le) ∙ made)

pub ruleset changing = (change_made, none_made, one_made, all_made)
