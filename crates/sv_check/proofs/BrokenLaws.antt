-- What tests say of rules after changes.
use Rattle.std.proofs.Common.{◌≡◌, ◌⊎◌, inl, inr, ⊎_elim, ℕ, ◌<◌, ◌≤◌, ◌||◌, not, Bool, true, false, cond, List, [], ◌∷◌, get_or, length, Option, Some, None, slice_get, refl, sym, ap, subst, ◌∙◌}
use Rattle.std.specs.FinMap.{get, get-insert}
use Rattle.sv_value.specs.declared.values.Key.{Key}
use Rattle.sv_app.specs.declared.apps.Ident.{Ident}
use Rattle.sv_app.specs.declared.gots.Got.{Got}
use Rattle.sv_app.specs.declared.places.Place.{Place}
use Rattle.sv_app.specs.declared.schemas.Check.{Check}
use Rattle.sv_app.specs.declared.schemas.Inv.{Inv}
use Rattle.sv_app.specs.declared.schemas.InvBody.{InvBody}
use Rattle.sv_app.specs.declared.schemas.InvBody.TheVariants as bodies
use Rattle.sv_app.specs.declared.schemas.Table.{Table}
use Rattle.sv_app.specs.Kinds.{is_grow_only}
use Rattle.sv_app.specs.Schema.{Rule, Declaration, schema_of, rule_of, invariant_of}
use Rattle.sv_app.specs.Tables.{Row, Tables}
use Rattle.sv_app.specs.Valid.{value_of, key_by, place_at, Meets, IsListed, IsPresent, Binds, Holds, IsInvariant}
use Rattle.sv_app.proofs.PlaceLaws.{place_total}
use Rattle.sv_effect.specs.declared.left.LeftRow.{LeftRow}
use Rattle.sv_effect.specs.Agrees.{seen_in, seen_at, is_present}
use Rattle.sv_effect.specs.Faces.{Face}
use Rattle.sv_effect.specs.Follows.{Follows}
use Rattle.sv_effect.specs.Overlays.{over, left_row, left_rows, hides}
use Rattle.sv_effect.specs.Reads.{SeenValue, ReadValue}
use Rattle.sv_effect.specs.TablesOfCut.{is_place}
use Rattle.sv_effect.proofs.FollowLaws.{quiet, so, next_to}
use Rattle.sv_check.specs.Left.{is_left}
use Rattle.sv_check.specs.Least.{Says, BrokenAt, IsAfter, RowSays, PlaceSays}
use Rattle.sv_check.specs.Rules.{is_met, is_listed}
use Rattle.sv_check.proofs.RuleLaws.{clash, meets, met, listed, in_list}
use Rattle.sv_check.proofs.TableLaws.{declared_as, undeclared}

-- a row that no change left is the one before
pub not_left : (left : List (Place × LeftRow)) (t : Tables) (p : Place) → is_left p left ≡ false → get (over left t) p ≡ get t p
not_left [] t p e = refl
not_left (x ∷ left) t p e = get-insert place_total (over left t) x.0 (left_row x.1) p ∙ split (is_place p x.0) e (not_left left t p)
  where
    split : (b : Bool) → (b || is_left p left) ≡ false → (is_left p left ≡ false → get (over left t) p ≡ get t p) → cond b (Some (left_row x.1)) (get (over left t) p) ≡ get t p
    split true e ih = absurd cc
    split false e ih = ih e

pub present_from : (t : Tables) (table : ℕ) (key : Key) → is_present t table key ≡ true → IsPresent t table key
present_from t table key e = split (get t (place_at table key)) refl (e')
  where
    e' : (seen_in (get t (place_at table key))).present ≡ true
    e' = e

    split : (o : Option Row) → get t (place_at table key) ≡ o → (seen_in o).present ≡ true → IsPresent t table key
    split None is h = absurd cc
    split (Some row) is h = record { row = row; kept = is; present = h }

pub from_present : (t : Tables) (table : ℕ) (key : Key) → IsPresent t table key → is_present t table key ≡ true
from_present t table key is = ap (λ o. (seen_in o).present) is.kept ∙ is.present

-- a reference binds
declared_binds : (grows present : Bool) → Says (grows || present) ((grows ≡ true) ⊎ (present ≡ true))
declared_binds true present = inl refl
declared_binds false true = inr refl
declared_binds false false = λ either. ⊎_elim (λ e. cc) (λ e. cc) either

pub binds_at : (tables : List Table) (n : ℕ) (d : Table) (present : Bool) → n < length tables
    → Says (is_grow_only (get_or tables n d).kind || present) (Binds (slice_get (schema_of tables) n) present)
binds_at tables n d present less = subst (λ o. Says (is_grow_only (get_or tables n d).kind || present) (Binds o present)) (sym (declared_as tables n d less)) (declared_binds (is_grow_only (get_or tables n d).kind) present)

pub binds_none : (tables : List Table) (n : ℕ) (present : Bool) → length tables ≤ n → Says false (Binds (slice_get (schema_of tables) n) present)
binds_none tables n present le = subst (λ o. Says false (Binds o present)) (sym (undeclared tables n le)) (λ h. h)

pub ruleset binding = (binds_at, binds_none)

-- whether a row stands after the changes
pub stands_left : (o n : Face) (a b : Option (List ReadValue)) (left : List (Place × LeftRow)) (place : Place) (row : LeftRow) (found : Option Row) (sure : Bool) → n ≡ o → b ≡ a
    → ((t : Tables) → get (over left t) place ≡ hides found (get t place)) → found ≡ Some (left_row row)
    → Follows o n a b (λ t. (sure ≡ true → is_present t place.table place.key ≡ true) → is_present (over left t) place.table place.key ≡ row.present)
stands_left o n a b left place row found sure same stands at is =
    quiet o n a b _ same stands (λ t known. ap (λ o. (seen_in o).present) (at t ∙ ap (λ f. hides f (get t place)) is))

pub stands_surely : (o n : Face) (a b : Option (List ReadValue)) (left : List (Place × LeftRow)) (place : Place) (found : Option Row) (sure : Bool) → n ≡ o → b ≡ a
    → ((t : Tables) → get (over left t) place ≡ hides found (get t place)) → found ≡ None → sure ≡ true
    → Follows o n a b (λ t. (sure ≡ true → is_present t place.table place.key ≡ true) → is_present (over left t) place.table place.key ≡ true)
stands_surely o n a b left place found sure same stands at is so_sure =
    quiet o n a b _ same stands (λ t known. ap (λ o. (seen_in o).present) (at t ∙ ap (λ f. hides f (get t place)) is) ∙ known so_sure)

pub stands_asked : (o n : Face) (a b : Option (List ReadValue)) (left : List (Place × LeftRow)) (place : Place) (found : Option Row) (sure : Bool) (seen : SeenValue)
    → Follows o n a b (λ t. seen_at t (place_at place.table place.key) ≡ seen) → ((t : Tables) → get (over left t) place ≡ hides found (get t place)) → found ≡ None
    → Follows o n a b (λ t. (sure ≡ true → is_present t place.table place.key ≡ true) → is_present (over left t) place.table place.key ≡ seen.present)
stands_asked o n a b left place found sure seen f at is =
    so o n a b _ _ f (λ t told known. ap (λ o. (seen_in o).present) (at t ∙ ap (λ f. hides f (get t place)) is) ∙ ap (λ s. s.present) told)

pub ruleset standing = (stands_left, stands_surely, stands_asked)

-- a rule of one row
pub says_met : (o n : Face) (a b : Option (List ReadValue)) (schema : List Declaration) (left : List (Place × LeftRow)) (place : Place) (row : LeftRow) (body : InvBody) (check : Check) (passes : Bool)
    → n ≡ o → b ≡ a → body ≡ bodies.Check check → passes ≡ is_met (left_row row) check → Follows o n a b (RowSays schema left place (left_row row) (rule_of body) (not passes))
says_met o n a b schema left place row body check passes same stands is e =
    quiet o n a b _ same stands (λ t after at. subst (λ x. Says (not passes) (Holds schema (over left t) place.table (rule_of x) place.key (left_row row) → ⊥)) (sym is) (split passes (sym e)))
  where
    split : (r : Bool) → is_met (left_row row) check ≡ r → Says (not r) (Meets (left_row row) check → ⊥)
    split true h = λ broken. broken (meets (left_row row) check h)
    split false h = λ holds. clash (is_met (left_row row) check) (met (left_row row) check holds) h

pub says_listed : (o n : Face) (a b : Option (List ReadValue)) (schema : List Declaration) (left : List (Place × LeftRow)) (place : Place) (row : LeftRow) (body : InvBody) (column : Ident) (texts : _) (got : Got) (passes : Bool)
    → n ≡ o → b ≡ a → body ≡ bodies.List column texts → got ≡ value_of (left_row row) column → passes ≡ is_listed got texts.items → Follows o n a b (RowSays schema left place (left_row row) (rule_of body) (not passes))
says_listed o n a b schema left place row body column texts got passes same stands is value e =
    quiet o n a b _ same stands (λ t after at. subst (λ x. Says (not passes) (Holds schema (over left t) place.table (rule_of x) place.key (left_row row) → ⊥)) (sym is)
    (split passes (sym (e ∙ ap (λ g. is_listed g texts.items) value))))
  where
    split : (r : Bool) → is_listed (value_of (left_row row) column) texts.items ≡ r → Says (not r) (IsListed (value_of (left_row row) column) texts.items → ⊥)
    split true h = λ broken. broken (listed (value_of (left_row row) column) texts.items h)
    split false h = λ holds. clash (is_listed (value_of (left_row row) column) texts.items) (in_list (value_of (left_row row) column) texts.items holds) h

-- a reference that doesn't bind the row
pub says_unbound : (o n : Face) (a b : Option (List ReadValue)) (schema : List Declaration) (left : List (Place × LeftRow)) (place : Place) (row : LeftRow) (body : InvBody) (column parent target : Ident) (bound : Bool)
    → n ≡ o → b ≡ a → body ≡ bodies.Refers column parent target → Says bound (Binds (slice_get schema parent.num) row.present) → bound ≡ false
    → Follows o n a b (RowSays schema left place (left_row row) (rule_of body) false)
says_unbound o n a b schema left place row body column parent target bound same stands is binds e =
    quiet o n a b _ same stands (λ t after at. subst (λ x. Says false (Holds schema (over left t) place.table (rule_of x) place.key (left_row row) → ⊥)) (sym is)
    (λ broken. broken (λ h. absurd (subst (λ r. Says r (Binds (slice_get schema parent.num) row.present)) e binds h))))

-- one that does
pub says_referring : (o n : Face) (a b : Option (List ReadValue)) (schema : List Declaration) (left : List (Place × LeftRow)) (place to : Place) (row : LeftRow) (inv : Inv) (column parent target : Ident)
    (got : Got) (bound found here : Bool) → IsInvariant schema place.table (invariant_of inv) → inv.body ≡ bodies.Refers column parent target
    → Says bound (Binds (slice_get schema parent.num) row.present) → bound ≡ true → here ≡ is_left place left → got ≡ value_of (left_row row) column → to ≡ place_at parent.num (key_by got)
    → Follows o n a b (λ t. (not here ≡ true → is_present t to.table to.key ≡ true) → is_present (over left t) to.table to.key ≡ found)
    → Follows o n a b (RowSays schema left place (left_row row) (rule_of inv.body) (not found))
says_referring o n a b schema left place to row inv column parent target got bound found here declared is binds e left_here value at_place f =
    so o n a b _ _ f (λ t told after at. subst (λ x. Says (not found) (Holds schema (over left t) place.table (rule_of x) place.key (left_row row) → ⊥)) (sym is) (split t found (tells t told after at)))
  where
    key : Key
    key = key_by (value_of (left_row row) column)

    place_is : to ≡ place_at parent.num key
    place_is = at_place ∙ ap (λ g. place_at parent.num (key_by g)) value

    bound_here : Binds (slice_get schema parent.num) row.present
    bound_here = subst (λ r. Says r (Binds (slice_get schema parent.num) row.present)) e binds

    not_here : (r : Bool) → not r ≡ true → r ≡ false
    not_here true h = absurd cc
    not_here false h = refl

    known : (t : Tables) → IsAfter schema left t → get (over left t) place ≡ Some (left_row row) → not here ≡ true → is_present t parent.num key ≡ true
    known t after at h =
        let kept : get t place ≡ Some (left_row row) = sym (not_left left t place (sym left_here ∙ not_here here h)) ∙ at in
        let holds : Holds schema t place.table (rule_of inv.body) place.key (left_row row) = after.valid.invariants place.table (invariant_of inv) place.key (left_row row) declared kept in
        from_present t parent.num key (subst (λ x. Holds schema t place.table (rule_of x) place.key (left_row row)) is holds bound_here)

    tells : (t : Tables) → ((not here ≡ true → is_present t to.table to.key ≡ true) → is_present (over left t) to.table to.key ≡ found) → IsAfter schema left t → get (over left t) place ≡ Some (left_row row)
        → is_present (over left t) parent.num key ≡ found
    tells t told after at =
        subst (λ p. is_present (over left t) p.table p.key ≡ found) place_is
        (told (λ h. subst (λ p. is_present t p.table p.key ≡ true) (sym place_is) (known t after at h)))

    split : (t : Tables) (r : Bool) → is_present (over left t) parent.num key ≡ r → Says (not r) ((Binds (slice_get schema parent.num) row.present → IsPresent (over left t) parent.num key) → ⊥)
    split t true h = λ broken. broken (λ b. present_from (over left t) parent.num key h)
    split t false h = λ holds. clash (is_present (over left t) parent.num key) (from_present (over left t) parent.num key (holds bound_here)) h

pub ruleset saying = (says_met, says_listed, says_unbound, says_referring)

-- the row was looked at, and judged
pub row_judged : (o m n : Face) (a b c : Option (List ReadValue)) (schema : List Declaration) (left : List (Place × LeftRow)) (place : Place) (found : Option LeftRow) (row : LeftRow) (rule : Rule) (broken : Bool)
    → Follows o m a b (λ t. get (over left t) place ≡ left_rows found) → found ≡ Some row → Follows m n b c (RowSays schema left place (left_row row) rule broken)
    → Follows o n a c (PlaceSays schema left place rule broken)
row_judged o m n a b c schema left place found row rule broken f is g =
    next_to o m n a b c _ _ _ f g (λ t looked says after. split t broken (looked ∙ ap left_rows is) (says after (looked ∙ ap left_rows is)))
  where
    split : (t : Tables) (r : Bool) → get (over left t) place ≡ Some (left_row row) → Says r (Holds schema (over left t) place.table rule place.key (left_row row) → ⊥)
        → Says r (BrokenAt schema (over left t) place.table rule place.key)
    split t true at says = record { row = left_row row; kept = at; breaks = says }
    split t false at says = λ at_key.
        let same : at_key.row ≡ left_row row = same_some' at_key.row (left_row row) (sym at_key.kept ∙ at) in
        says (subst (λ x. Holds schema (over left t) place.table rule place.key x → ⊥) same at_key.breaks)
      where
        same_some' : (x y : Row) → Some x ≡ Some y → x ≡ y
        same_some' x y e = cc

pub no_row : (o n : Face) (a b : Option (List ReadValue)) (schema : List Declaration) (left : List (Place × LeftRow)) (place : Place) (found : Option LeftRow) (rule : Rule)
    → Follows o n a b (λ t. get (over left t) place ≡ left_rows found) → found ≡ None → Follows o n a b (PlaceSays schema left place rule false)
no_row o n a b schema left place found rule f is =
    so o n a b _ _ f (λ t looked after at_key. none_there at_key.row (sym (looked ∙ ap left_rows is) ∙ at_key.kept))
  where
    none_there : (x : Row) → None ≡ Some x → ⊥
    none_there x e = cc

pub ruleset looking = (row_judged, no_row)
