-- Pairs of keys and values are put one after the other, and a key clashes where another has its value.
use Rattle.std.proofs.Common.{◌≡◌, ◌⊎◌, inl, inr, ℕ, ℤ, int_eq, ◌+◌, ◌<◌, ◌≤◌, ◌&&◌, not, Bool, true, false, cond, List, [], ◌∷◌, ◌++◌, take, get_or, length, Option, Some, None, refl, sym, ap, ◌∙◌, arith}
use Rattle.std.specs.Ordering.{is_eq}
use Rattle.std.specs.FinMap.{get}
use Rattle.std.proofs.lemmas.Int.{ints}
use Rattle.std.proofs.lemmas.Cmp.{eq_by_cmp_equiv}
use Rattle.std.proofs.lemmas.List.{take_all}
use Rattle.std.proofs.lemmas.Map.Views.{tells_apart}
use Rattle.sv_value.specs.declared.values.Key.{Key}
use Rattle.sv_value.specs.Orders.{key_cmp}
use Rattle.sv_value.proofs.OrderLaws.{key_total, exact_keys, text_total, exact_texts}
use Rattle.sv_app.specs.declared.apps.Ident.{Ident}
use Rattle.sv_app.specs.declared.gots.Got.{Got}
use Rattle.sv_app.specs.declared.gots.Got.TheVariants.{Num, Text}
use Rattle.sv_app.specs.declared.places.Place.{Place}
use Rattle.sv_app.specs.Tables.{Row, Tables}
use Rattle.sv_app.specs.Valid.{value_of, place_at}
use Rattle.sv_effect.specs.declared.left.LeftRow.{LeftRow}
use Rattle.sv_effect.specs.Faces.{Face}
use Rattle.sv_effect.specs.Follows.{Follows}
use Rattle.sv_effect.specs.Agrees.{seen_at}
use Rattle.sv_effect.specs.Overlays.{over, hides, told_row}
use Rattle.sv_effect.specs.Reads.{SeenValue, ReadValue}
use Rattle.sv_effect.proofs.FollowLaws.{quiet, so, next_to}
use Rattle.sv_effect.proofs.OverlayLaws.{told_back}
use Rattle.sv_check.specs.Clashes.{Pair, same_got, present_value, pair_of, values_of, values_at, Clashes}
use Rattle.sv_app.proofs.ListLaws.{Stands, any_at, Passes, any_passes}
use Rattle.sv_check.proofs.RuleLaws.{clash}
use Rattle.sv_check.proofs.SetLaws.{flat_more}

-- ---- the value at a place

-- a change left the row
pub value_left : (o n : Face) (a b : Option (List ReadValue)) (left : List (Place × LeftRow)) (place : Place) (column : Ident) (row : Row) (found : Option Row) (value : Option Got) → n ≡ o → b ≡ a
    → ((t : Tables) → get (over left t) place ≡ hides found (get t place)) → found ≡ Some row → value ≡ present_value column (Some row)
    → Follows o n a b (λ t. value ≡ present_value column (get (over left t) place))
value_left o n a b left place column row found value same stands at is gives =
    quiet o n a b _ same stands (λ t. gives ∙ ap (present_value column) (sym (at t ∙ ap (λ f. hides f (get t place)) is)))

-- the row before is asked for
pub value_behind : (o n : Face) (a b : Option (List ReadValue)) (left : List (Place × LeftRow)) (place : Place) (column : Ident) (found : Option Row) (seen : SeenValue) (value : Option Got)
    → Follows o n a b (λ t. seen_at t (place_at place.table place.key) ≡ seen) → ((t : Tables) → get (over left t) place ≡ hides found (get t place)) → found ≡ None
    → value ≡ present_value column (told_row seen) → Follows o n a b (λ t. value ≡ present_value column (get (over left t) place))
value_behind o n a b left place column found seen value f at is gives =
    so o n a b _ _ f (λ t told. gives ∙ ap (present_value column) (ap told_row (sym told) ∙ told_back (get t place) ∙ sym (at t ∙ ap (λ f. hides f (get t place)) is)))

pub ruleset valuing = (value_left, value_behind)

-- ---- pairs

pair_present : (column : Ident) (key : Key) (row : Option Row) → pair_of key (present_value column row) ≡ values_of column key row
pair_present column key None = refl
pair_present column key (Some row) = by row.present
  where
    by : (b : Bool) → pair_of key (cond b (Some (value_of row column)) None) ≡ cond b ((key, value_of row column) ∷ []) []
    by true = refl
    by false = refl

pub none_paired : (o n : Face) (a b : Option (List ReadValue)) (left : List (Place × LeftRow)) (table : ℕ) (column : Ident) (keys : List Key) (pairs : List Pair) → n ≡ o → b ≡ a → pairs ≡ []
    → Follows o n a b (λ t. pairs ≡ values_at (over left t) table column (take 0 keys))
none_paired o n a b left table column keys pairs same stands is = quiet o n a b _ same stands (λ t. is)

pub one_paired : (o m n : Face) (a b c : Option (List ReadValue)) (left : List (Place × LeftRow)) (table : ℕ) (column : Ident) (keys : List Key) (i : ℕ) (key : Key) (value : Option Got) (old new : List Pair)
    → i < length keys → key ≡ get_or keys i key
    → Follows o m a b (λ t. old ≡ values_at (over left t) table column (take i keys)) → Follows m n b c (λ t. value ≡ present_value column (get (over left t) (place_at table key)))
    → new ≡ old ++ pair_of key value → Follows o n a c (λ t. new ≡ values_at (over left t) table column (take (i + 1) keys))
one_paired o m n a b c left table column keys i key value old new less is f g more =
    next_to o m n a b c _ _ _ f g (λ t before looked.
    more ∙ (λ j. before j ++ pair_of key (looked j))
    ∙ ap (λ ps. values_at (over left t) table column (take i keys) ++ ps) (pair_present column key (get (over left t) (place_at table key)))
    ∙ ap (λ k. values_at (over left t) table column (take i keys) ++ values_of column k (get (over left t) (place_at table k))) is
    ∙ flat_more (λ k. values_of column k (get (over left t) (place_at table k))) keys i key less)

pub all_paired : (o n : Face) (a b : Option (List ReadValue)) (left : List (Place × LeftRow)) (table : ℕ) (column : Ident) (keys : List Key) (i : ℕ) (pairs : List Pair) → length keys ≤ i
    → Follows o n a b (λ t. pairs ≡ values_at (over left t) table column (take i keys)) → Follows o n a b (λ t. pairs ≡ values_at (over left t) table column keys)
all_paired o n a b left table column keys i pairs le f = so o n a b _ _ f (λ t h. h ∙ ap (values_at (over left t) table column) (take_all i keys le))

pub ruleset pairing = (none_paired, all_paired)

-- ---- a key clashes just where two of the pairs have one value

same_values : (g h : Got) → same_got g h ≡ true → g ≡ h
same_values (Num n) (Num m) e = ap (λ x. Num x) (numbers n m e)
  where
    numbers : (a b : ℤ) → int_eq a b ≡ true → a ≡ b
    numbers a b e = grind (arith, ints)
same_values (Text s) (Text u) e = ap (λ x. Text x) (tells_apart exact_texts s u e)
same_values (Num n) (Text u) e = absurd cc
same_values (Text s) (Num m) e = absurd cc

values_same : (g : Got) → same_got g g ≡ true
values_same (Num n) = numbers n
  where
    numbers : (a : ℤ) → int_eq a a ≡ true
    numbers a = grind (arith, ints)
values_same (Text s) = (eq_by_cmp_equiv text_total).refl s

both_of : (a b : Bool) → (a && b) ≡ true → (a ≡ true) × (b ≡ true)
both_of true true e = (refl, refl)
both_of true false e = absurd cc
both_of false b e = absurd cc

both_true : (a b : Bool) → a ≡ true → b ≡ true → (a && b) ≡ true
both_true true true g h = refl
both_true true false g h = absurd cc
both_true false b g h = absurd cc

negated : (b : Bool) → not b ≡ true → b ≡ false
negated true e = absurd cc
negated false e = refl

negates : (b : Bool) → b ≡ false → not b ≡ true
negates true e = absurd cc
negates false e = refl

pub cases_keys : (a b : Key) → (a ≡ b) ⊎ (a ≡ b → ⊥)
cases_keys a b = by (is_eq (key_cmp a b)) refl
  where
    by : (r : Bool) → is_eq (key_cmp a b) ≡ r → (a ≡ b) ⊎ (a ≡ b → ⊥)
    by true e = inl (tells_apart exact_keys a b e)
    by false e = inr (λ same. clash (is_eq (key_cmp a b)) (ap (λ x. is_eq (key_cmp x b)) same ∙ (eq_by_cmp_equiv key_total).refl b) e)

-- the key has a value that another key has
pub record HasTwo (pairs : List Pair) (key : Key) : Type 0 where
  pub value : Got
  pub other : Key
  pub one : Stands pairs (key, value)
  pub two : Stands pairs (other, value)
  pub apart : other ≡ key → ⊥

pub has_two : (pairs : List Pair) (key : Key) → Clashes pairs key → HasTwo pairs key
has_two pairs key c =
    let passes : Passes (λ p. same_got p.1 c.value && not (is_eq (key_cmp p.0 key))) pairs = any_passes (λ p. same_got p.1 c.value && not (is_eq (key_cmp p.0 key))) pairs c.other in
    let tests = both_of (same_got passes.x.1 c.value) (not (is_eq (key_cmp passes.x.0 key))) passes.is in
    record {
      value = c.value;
      other = passes.x.0;
      one = record { number = c.number; at = c.at };
      two = record { number = passes.number; at = passes.at ∙ ap (λ v. Some (passes.x.0, v)) (same_values passes.x.1 c.value tests.0) };
      apart = λ same. clash (is_eq (key_cmp passes.x.0 key)) (ap (λ x. is_eq (key_cmp x key)) same ∙ (eq_by_cmp_equiv key_total).refl key) (negated (is_eq (key_cmp passes.x.0 key)) tests.1);
    }

pub two_clash : (pairs : List Pair) (key : Key) → HasTwo pairs key → Clashes pairs key
two_clash pairs key h = record {
  number = h.one.number;
  value = h.value;
  at = h.one.at;
  other = any_at (λ p. same_got p.1 h.value && not (is_eq (key_cmp p.0 key))) pairs h.two.number (h.other, h.value) h.two.at
      (both_true (same_got h.value h.value) (not (is_eq (key_cmp h.other key))) (values_same h.value) (negates (is_eq (key_cmp h.other key)) (unlike (is_eq (key_cmp h.other key)) refl)));
}
  where
    unlike : (b : Bool) → is_eq (key_cmp h.other key) ≡ b → b ≡ false
    unlike true e = absurd (h.apart (tells_apart exact_keys h.other key e))
    unlike false e = refl
