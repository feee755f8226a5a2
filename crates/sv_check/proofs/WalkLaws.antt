-- Keys that are walked from one to the next, and those of rows that changes left.
use Rattle.std.proofs.Common.{◌≡◌, ℕ, ◌+◌, ◌<◌, ◌||◌, ◌==◌, Bool, true, false, List, [], ◌∷◌, ◌++◌, take, get_or, length, Option, Some, None, refl, sym, ap, subst, ◌∙◌, arith}
use Rattle.std.specs.declared.cmp.Ordering.{Ordering}
use Rattle.std.specs.declared.cmp.Ordering.TheVariants.{Less, Equal, Greater}
use Rattle.std.specs.Ordering.{is_lt, is_eq, nat_cmp, ordering_then, eq_by_cmp}
use Rattle.std.proofs.lemmas.Bool.Decides.{nat_tests}
use Rattle.std.proofs.lemmas.Cmp.{eq_by_cmp_equiv}
use Rattle.std.proofs.lemmas.List.{take_more}
use Rattle.std.proofs.lemmas.List.Folds.{list_any-append}
use Rattle.sv_value.specs.declared.values.Key.{Key}
use Rattle.sv_value.specs.Orders.{key_cmp}
use Rattle.sv_value.proofs.OrderLaws.{key_total}
use Rattle.sv_app.specs.declared.places.Place.{Place}
use Rattle.sv_app.specs.Tables.{Tables}
use Rattle.sv_app.specs.Valid.{place_at}
use Rattle.sv_effect.specs.declared.left.LeftRow.{LeftRow}
use Rattle.sv_effect.specs.Agrees.{is_present, is_after}
use Rattle.sv_effect.specs.Faces.{Face}
use Rattle.sv_effect.specs.Follows.{Follows}
use Rattle.sv_effect.specs.Keys.{Walks}
use Rattle.sv_effect.specs.Reads.{ReadValue}
use Rattle.sv_effect.specs.Run.{present_keys}
use Rattle.sv_effect.specs.TablesOfCut.{is_place}
use Rattle.sv_effect.proofs.FollowLaws.{quiet, so}
use Rattle.sv_effect.proofs.LaidLaws.{present_walk}
use Rattle.sv_check.specs.Left.{is_left}
use Rattle.sv_check.specs.Least.{has_key, AreCandidates}
use Rattle.sv_check.proofs.LeastLaws.{neither}
use Rattle.sv_check.proofs.RuleLaws.{clash}

or_left_true : (a b : Bool) → a ≡ true → (a || b) ≡ true
or_left_true true b e = refl
or_left_true false b e = absurd cc

or_right_true : (a b : Bool) → b ≡ true → (a || b) ≡ true
or_right_true true b e = refl
or_right_true false b e = e

has_more : (key : Key) (keys more : List Key) → has_key key (keys ++ more) ≡ (has_key key keys || has_key key more)
has_more key keys more = list_any-append (eq_by_cmp key_cmp key) keys more

-- a present key is among those that are walked
walk_has : (p : Key → Bool) (after : Option Key) (keys : List Key) (key : Key) → Walks p after keys → is_after after key ≡ true → p key ≡ true → has_key key keys ≡ true
walk_has p after [] key h later present = clash (p key) present (h key later)
walk_has p after (k ∷ keys) key h later present = split (is_lt (key_cmp key k)) refl (is_lt (key_cmp k key)) refl (λ more. walk_has p (Some k) keys key h.1 more present)
  where
    split : (b : Bool) → is_lt (key_cmp key k) ≡ b → (c : Bool) → is_lt (key_cmp k key) ≡ c → (is_after (Some k) key ≡ true → has_key key keys ≡ true) → has_key key (k ∷ keys) ≡ true
    split true less c e ih = clash (p key) present (h.0.2 key later less)
    split false less true more ih = or_right_true (eq_by_cmp key_cmp key k) (has_key key keys) (ih more)
    split false less false not_more ih = or_left_true (eq_by_cmp key_cmp key k) (has_key key keys) (subst (λ j. eq_by_cmp key_cmp key j ≡ true) (neither key k less not_more) ((eq_by_cmp_equiv key_total).refl key))

has_present : (t : Tables) (table : ℕ) (key : Key) → is_present t table key ≡ true → has_key key (present_keys t table) ≡ true
has_present t table key present = walk_has (is_present t table) None (present_keys t table) key (present_walk t table) refl present

same_table : (table : ℕ) (key : Key) (p : Place) → (p.table == table) ≡ true → is_place (place_at table key) p ≡ eq_by_cmp key_cmp key p.key
same_table table key p e = ap (λ o. is_eq (ordering_then o (key_cmp key p.key))) (tie table p.table e)
  where
    tie : (n m : ℕ) → (m == n) ≡ true → nat_cmp n m ≡ Equal
    tie n m e = grind (arith, nat_tests)

pub other_table : (table : ℕ) (key : Key) (p : Place) → (p.table == table) ≡ false → is_place (place_at table key) p ≡ false
other_table table key p e = split (nat_cmp table p.table) refl
  where
    untied : (n m : ℕ) → (m == n) ≡ false → nat_cmp n m ≡ Equal → ⊥
    untied n m e h = grind (arith, nat_tests)

    split : (o : Ordering) → nat_cmp table p.table ≡ o → is_eq (ordering_then o (key_cmp key p.key)) ≡ false
    split Less h = refl
    split Equal h = absurd (untied table p.table e h)
    split Greater h = refl

or_assoc : (a b c : Bool) → ((a || b) || c) ≡ (a || (b || c))
or_assoc true b c = refl
or_assoc false b c = refl

or_none : (a : Bool) → (a || false) ≡ a
or_none true = refl
or_none false = refl

left_more : (p : Place) (left : List (Place × LeftRow)) (i : ℕ) (e : Place × LeftRow) → i < length left → e ≡ get_or left i e → is_left p (take (i + 1) left) ≡ (is_left p (take i left) || is_place p e.0)
left_more p left i e less is =
    ap (is_left p) (take_more left i e less) ∙ list_any-append (λ x. is_place p x.0) (take i left) (get_or left i e ∷ [])
    ∙ ap (λ b. is_left p (take i left) || b) (or_none (is_place p (get_or left i e).0) ∙ ap (λ x. is_place p x.0) (sym is))

-- the key of a row of the table is added
pub left_added : (table : ℕ) (left : List (Place × LeftRow)) (i : ℕ) (e : Place × LeftRow) (before : Bool) (keys : List Key) (key : Key) → i < length left → e ≡ get_or left i e → (e.0.table == table) ≡ true
    → has_key key keys ≡ (before || is_left (place_at table key) (take i left)) → has_key key (keys ++ e.0.key ∷ []) ≡ (before || is_left (place_at table key) (take (i + 1) left))
left_added table left i e before keys key less is here held =
    has_more key keys (e.0.key ∷ []) ∙ (λ j. held j || or_none (eq_by_cmp key_cmp key e.0.key) j)
    ∙ or_assoc before (is_left (place_at table key) (take i left)) (eq_by_cmp key_cmp key e.0.key)
    ∙ ap (λ b. before || b) (ap (λ b. is_left (place_at table key) (take i left) || b) (sym (same_table table key e.0 here)) ∙ sym (left_more (place_at table key) left i e less is))

pub left_passed : (table : ℕ) (left : List (Place × LeftRow)) (i : ℕ) (e : Place × LeftRow) (before : Bool) (keys : List Key) (key : Key) → i < length left → e ≡ get_or left i e → (e.0.table == table) ≡ false
    → has_key key keys ≡ (before || is_left (place_at table key) (take i left)) → has_key key keys ≡ (before || is_left (place_at table key) (take (i + 1) left))
left_passed table left i e before keys key less is there held =
    held ∙ ap (λ b. before || b) (sym (left_more (place_at table key) left i e less is ∙ ap (λ b. is_left (place_at table key) (take i left) || b) (other_table table key e.0 there) ∙ or_none (is_left (place_at table key) (take i left))))

-- the table was walked, and the keys of the rows that changes left were added
pub were_walked : (o n : Face) (a b : Option (List ReadValue)) (walk : Bool) (left : List (Place × LeftRow)) (table : ℕ) (walked keys all : List Key)
    → Follows o n a b (λ t. walked ≡ present_keys t table) → keys ≡ walked → ((key : Key) → has_key key all ≡ (has_key key keys || is_left (place_at table key) left))
    → Follows o n a b (AreCandidates walk left table all)
were_walked o n a b walk left table walked keys all f same more = so o n a b _ _ f (λ t is. record {
  changed = λ key here. more key ∙ or_right_true (has_key key keys) (is_left (place_at table key) left) here;
  present = λ _ key here. more key ∙ or_left_true (has_key key keys) (is_left (place_at table key) left) (ap (has_key key) (same ∙ is) ∙ has_present t table key here);
})

pub not_walked : (o n : Face) (a b : Option (List ReadValue)) (left : List (Place × LeftRow)) (table : ℕ) (keys all : List Key) → n ≡ o → b ≡ a
    → ((key : Key) → has_key key all ≡ (has_key key keys || is_left (place_at table key) left)) → Follows o n a b (AreCandidates false left table all)
not_walked o n a b left table keys all same stands more = quiet o n a b _ same stands (λ t. record {
  changed = λ key is. more key ∙ or_right_true (has_key key keys) (is_left (place_at table key) left) is;
  present = λ e key is. absurd cc;
})

pub ruleset candidates = (not_walked)
