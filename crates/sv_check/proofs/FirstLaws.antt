-- The first key of each value is kept, and where a pair's value had another first key, both are keys that clash.
use Rattle.std.proofs.Common.{◌≡◌, ◌⊎◌, inl, inr, ⊎_elim, ℕ, ℤ, zero, suc, ◌+◌, ◌<◌, ◌≤◌, Bool, true, false, cond, List, [], ◌∷◌, ◌++◌, take, get_or, length, Option, Some, None, slice_get, refl, sym, ap, subst, ◌∙◌}
use Rattle.std.specs.declared.cmp.Ordering.{Ordering}
use Rattle.std.specs.Ordering.{int_cmp, is_eq, eq_by_cmp}
use Rattle.std.specs.Option.{option_cmp}
use Rattle.std.specs.BTreeMap.{BTreeMap, get, IsEmpty}
use Rattle.std.specs.Cmp.{IsTotalOrder, on_total, then_total, int_cmp_total}
use Rattle.std.specs.Cmp.Lexicographic.{options_total}
use Rattle.std.proofs.lemmas.Cmp.{eq_by_cmp_equiv}
use Rattle.std.proofs.lemmas.List.{take_more, take_all}
use Rattle.std.proofs.lemmas.Map.Lookups.{CmpEqualImpliesEq, exact_pairs, exact_signed}
use Rattle.std.proofs.lemmas.Map.Views.{tells_apart}
use Rattle.sv_value.specs.declared.values.Key.{Key}
use Rattle.sv_value.specs.Orders.{text_cmp, key_cmp}
use Rattle.sv_value.proofs.OrderLaws.{key_total, exact_keys, text_total, exact_texts}
use Rattle.sv_app.specs.declared.gots.Got.{Got}
use Rattle.sv_app.specs.declared.gots.Got.TheVariants.{Num, Text}
use Rattle.sv_check.specs.declared.clashes.Ordered.{Ordered}
use Rattle.sv_check.specs.Least.{IsLeast, lesser}
use Rattle.sv_check.specs.Clashes.{Pair, Clashes, in_order, ordered_cmp, first_with, with_both}
use Rattle.sv_check.proofs.ClashLaws.{HasTwo, has_two, two_clash, cases_keys}
use Rattle.sv_check.proofs.LeastLaws.{least_both, least_same, least_one}
use Rattle.sv_app.proofs.ListLaws.{Stands, front_at, back_stands, in_either}

-- ---- the order of values

pub ordered_total : IsTotalOrder ordered_cmp
ordered_total = then_total (on_total (λ o. o.number) int_cmp_total) (on_total (λ o. o.text) (options_total text_total))

exact_options : {A : Type 0} {R : A → A → Ordering} → CmpEqualImpliesEq R → CmpEqualImpliesEq (option_cmp R)
exact_options e None None h = refl
exact_options e None (Some y) h = cc
exact_options e (Some x) None h = cc
exact_options e (Some x) (Some y) h = ap (λ a. Some a) (e x y h)

exact_ordered : CmpEqualImpliesEq ordered_cmp
exact_ordered a b h = ap (λ (p : ℤ × Option (List ℕ)). let o : Ordered = record { number = p.0; text = p.1 } in o)
    (exact_pairs int_cmp (option_cmp text_cmp) exact_signed (exact_options exact_texts) (a.number, a.text) (b.number, b.text) h)

same_text : (s t : List ℕ) → Some s ≡ Some t → s ≡ t
same_text s t e = cc

no_text : {P : Type 0} (t : List ℕ) → None ≡ Some t → P
no_text t e = absurd cc

same_ordered : (g h : Got) → in_order g ≡ in_order h → g ≡ h
same_ordered (Num n) (Num m) e = ap (λ o. Num o.number) e
same_ordered (Num n) (Text t) e = no_text t (ap (λ o. o.text) e)
same_ordered (Text s) (Num m) e = no_text s (sym (ap (λ o. o.text) e))
same_ordered (Text s) (Text t) e = ap (λ x. Text x) (same_text s t (ap (λ o. o.text) e))

same_place : (g h : Got) → eq_by_cmp ordered_cmp (in_order g) (in_order h) ≡ true → g ≡ h
same_place g h e = same_ordered g h (tells_apart exact_ordered (in_order g) (in_order h) e)

-- ---- the first key with a value

abbrev or_first : Option Key → Option Key → Option Key
or_first None other = other
or_first (Some key) other = Some key

or_none : (o : Option Key) → or_first o None ≡ o
or_none None = refl
or_none (Some key) = refl

first_more : (value : Ordered) (ps : List Pair) (e : Pair) → first_with value (ps ++ e ∷ []) ≡ or_first (first_with value ps) (cond (eq_by_cmp ordered_cmp (in_order e.1) value) (Some e.0) None)
first_more value [] e = refl
first_more value (p ∷ ps) e = by (eq_by_cmp ordered_cmp (in_order p.1) value) (first_more value ps e)
  where
    last : Option Key
    last = cond (eq_by_cmp ordered_cmp (in_order e.1) value) (Some e.0) None

    by : (b : Bool) → first_with value (ps ++ e ∷ []) ≡ or_first (first_with value ps) last
        → cond b (Some p.0) (first_with value (ps ++ e ∷ [])) ≡ or_first (cond b (Some p.0) (first_with value ps)) last
    by true ih = refl
    by false ih = ih

first_stands : (g : Got) (ps : List Pair) (f : Key) → first_with (in_order g) ps ≡ Some f → Stands ps (f, g)
first_stands g [] f is = absurd cc
first_stands g (p ∷ ps) f is = by (eq_by_cmp ordered_cmp (in_order p.1) (in_order g)) refl is (first_stands g ps f)
  where
    pair : (k : Key) (v : Got) → Some k ≡ Some f → v ≡ g → slice_get ((k, v) ∷ ps) 0 ≡ Some (f, g)
    pair k v same value = cc

    by : (b : Bool) → eq_by_cmp ordered_cmp (in_order p.1) (in_order g) ≡ b → cond b (Some p.0) (first_with (in_order g) ps) ≡ Some f → (first_with (in_order g) ps ≡ Some f → Stands ps (f, g)) → Stands (p ∷ ps) (f, g)
    by true e is ih = record { number = 0; at = pair p.0 p.1 is (same_place p.1 g e) }
    by false e is ih = let later : Stands ps (f, g) = ih is in record { number = suc later.number; at = later.at }

first_none : (g : Got) (ps : List Pair) (n : ℕ) (k : Key) → first_with (in_order g) ps ≡ None → slice_get ps n ≡ Some (k, g) → ⊥
first_none g [] n k is at = cc
first_none g (p ∷ ps) n k is at = by (eq_by_cmp ordered_cmp (in_order p.1) (in_order g)) refl is n at (first_none g ps)
  where
    value : p ≡ (k, g) → p.1 ≡ g
    value e = ap (λ x. x.1) e

    some_same : (x y : Pair) → Some x ≡ Some y → x ≡ y
    some_same x y e = cc

    by : (b : Bool) → eq_by_cmp ordered_cmp (in_order p.1) (in_order g) ≡ b → cond b (Some p.0) (first_with (in_order g) ps) ≡ None → (n : ℕ) → slice_get (p ∷ ps) n ≡ Some (k, g)
        → ((n : ℕ) (k : Key) → first_with (in_order g) ps ≡ None → slice_get ps n ≡ Some (k, g) → ⊥) → ⊥
    by true e is n at ih = cc
    by false e is zero at ih = never (eq_by_cmp ordered_cmp (in_order p.1) (in_order g)) (ap (λ v. eq_by_cmp ordered_cmp (in_order v) (in_order g)) (value (some_same p (k, g) at)) ∙ (eq_by_cmp_equiv ordered_total).refl (in_order g)) e
      where
        never : (b : Bool) → b ≡ true → b ≡ false → ⊥
        never b h i = cc
    by false e is (suc n) at ih = ih n k is at

-- ---- one pair more

in_front : (ps : List Pair) (e x : Pair) → Stands ps x → Stands (ps ++ e ∷ []) x
in_front ps e x h = record { number = h.number; at = front_at ps (e ∷ []) h.number x h.at }

at_end : (ps : List Pair) (e : Pair) → Stands (ps ++ e ∷ []) e
at_end ps e = back_stands ps (e ∷ []) e (record { number = 0; at = refl })

either_of : (ps : List Pair) (e x : Pair) → Stands (ps ++ e ∷ []) x → Stands ps x ⊎ (x ≡ e)
either_of ps e x h = ⊎_elim (λ s. inl s) (λ s. inr (only s.number s.at)) (in_either ps (e ∷ []) h.number x h.at)
  where
    only : (n : ℕ) → slice_get {X = Pair} (e ∷ []) n ≡ Some x → x ≡ e
    only zero at = cc
    only (suc n) at = absurd cc

kept_two : (ps : List Pair) (e : Pair) (key : Key) → HasTwo ps key → HasTwo (ps ++ e ∷ []) key
kept_two ps e key h = record { value = h.value; other = h.other; one = in_front ps e (key, h.value) h.one; two = in_front ps e (h.other, h.value) h.two; apart = h.apart }

with_value : (ps : List Pair) (e : Pair) (key : Key) (value : Got) → value ≡ e.1 → Stands ps (key, value) → Stands ps (key, e.1)
with_value ps e key value is h = subst (λ v. Stands ps (key, v)) is h

-- no pair before it has its value
fresh_two : (ps : List Pair) (e : Pair) (key : Key) → first_with (in_order e.1) ps ≡ None → HasTwo (ps ++ e ∷ []) key → HasTwo ps key
fresh_two ps e key none h = by (either_of ps e (key, h.value) h.one) (either_of ps e (h.other, h.value) h.two)
  where
    not_there : (k : Key) → Stands ps (k, e.1) → ⊥
    not_there k s = first_none e.1 ps s.number k none s.at

    by : Stands ps (key, h.value) ⊎ ((key, h.value) ≡ e) → Stands ps (h.other, h.value) ⊎ ((h.other, h.value) ≡ e) → HasTwo ps key
    by (inl one) (inl two) = record { value = h.value; other = h.other; one = one; two = two; apart = h.apart }
    by (inl one) (inr two) = absurd (not_there key (with_value ps e key h.value (ap (λ p. p.1) two) one))
    by (inr one) (inl two) = absurd (not_there h.other (with_value ps e h.other h.value (ap (λ p. p.1) one) two))
    by (inr one) (inr two) = absurd (h.apart (ap (λ p. p.0) two ∙ sym (ap (λ p. p.0) one)))

-- the first key with its value
known_two : (ps : List Pair) (e : Pair) (f key : Key) → Stands ps (f, e.1) → HasTwo (ps ++ e ∷ []) key → HasTwo ps key ⊎ ((f ≡ e.0 → ⊥) × ((key ≡ f) ⊎ (key ≡ e.0)))
known_two ps e f key first h = by (either_of ps e (key, h.value) h.one) (either_of ps e (h.other, h.value) h.two)
  where
    Says : Type 0
    Says = HasTwo ps key ⊎ ((f ≡ e.0 → ⊥) × ((key ≡ f) ⊎ (key ≡ e.0)))

    by : Stands ps (key, h.value) ⊎ ((key, h.value) ≡ e) → Stands ps (h.other, h.value) ⊎ ((h.other, h.value) ≡ e) → Says
    by (inl one) (inl two) = inl (record { value = h.value; other = h.other; one = one; two = two; apart = h.apart })
    by (inl one) (inr two) = ⊎_elim
        (λ same. inr ((λ again. h.apart (ap (λ p. p.0) two ∙ sym again ∙ same)), inl (sym same)))
        (λ apart. inl (record { value = e.1; other = f; one = with_value ps e key h.value (ap (λ p. p.1) two) one; two = first; apart = apart }))
        (cases_keys f key)
    by (inr one) (inl two) = ⊎_elim
        (λ same. inl (record {
          value = e.1;
          other = h.other;
          one = subst (λ k. Stands ps (k, e.1)) (same ∙ sym (ap (λ p. p.0) one)) first;
          two = with_value ps e h.other h.value (ap (λ p. p.1) one) two;
          apart = h.apart;
        }))
        (λ apart. inr (apart, inr (ap (λ p. p.0) one)))
        (cases_keys f e.0)
    by (inr one) (inr two) = absurd (h.apart (ap (λ p. p.0) two ∙ sym (ap (λ p. p.0) one)))

both_two : (ps : List Pair) (e : Pair) (f : Key) → Stands ps (f, e.1) → (f ≡ e.0 → ⊥) → HasTwo (ps ++ e ∷ []) f × HasTwo (ps ++ e ∷ []) e.0
both_two ps e f first apart = (
  record { value = e.1; other = e.0; one = in_front ps e (f, e.1) first; two = at_end ps e; apart = λ same. apart (sym same) },
  record { value = e.1; other = f; one = at_end ps e; two = in_front ps e (f, e.1) first; apart = apart },
)

-- ---- the least of the keys that clash

fresh_least : (ps : List Pair) (e : Pair) (found : Option Key) → first_with (in_order e.1) ps ≡ None → IsLeast (Clashes ps) found → IsLeast (Clashes (ps ++ e ∷ [])) found
fresh_least ps e found none least = least_same (Clashes ps) (Clashes (ps ++ e ∷ [])) found least
    (λ k c. two_clash (ps ++ e ∷ []) k (kept_two ps e k (has_two ps k c)))
    (λ k c. two_clash ps k (fresh_two ps e k none (has_two (ps ++ e ∷ []) k c)))

known_least : (ps : List Pair) (e : Pair) (f : Key) (found : Option Key) → Stands ps (f, e.1) → IsLeast (Clashes ps) found → IsLeast (Clashes (ps ++ e ∷ [])) (with_both found f e.0)
known_least ps e f found first least = by (is_eq (key_cmp f e.0)) refl
  where
    kept : (k : Key) → Clashes ps k → Clashes (ps ++ e ∷ []) k
    kept k c = two_clash (ps ++ e ∷ []) k (kept_two ps e k (has_two ps k c))

    never : (b : Bool) → b ≡ true → b ≡ false → ⊥
    never b h i = cc

    apart : is_eq (key_cmp f e.0) ≡ false → f ≡ e.0 → ⊥
    apart is same = never (is_eq (key_cmp f e.0)) (ap (λ x. is_eq (key_cmp x e.0)) same ∙ (eq_by_cmp_equiv key_total).refl e.0) is

    by : (b : Bool) → is_eq (key_cmp f e.0) ≡ b → IsLeast (Clashes (ps ++ e ∷ [])) (cond b found (lesser (lesser found (Some f)) (Some e.0)))
    by true is = least_same (Clashes ps) (Clashes (ps ++ e ∷ [])) found least kept
        (λ k c. ⊎_elim (λ two. two_clash ps k two) (λ h. absurd (h.0 (tells_apart exact_keys f e.0 is))) (known_two ps e f k first (has_two (ps ++ e ∷ []) k c)))
    by false is =
        let both = both_two ps e f first (apart is) in
        least_same (λ k. (Clashes ps k ⊎ (k ≡ f)) ⊎ (k ≡ e.0)) (Clashes (ps ++ e ∷ [])) (lesser (lesser found (Some f)) (Some e.0))
        (least_both (λ k. Clashes ps k ⊎ (k ≡ f)) (λ k. k ≡ e.0) (lesser found (Some f)) (Some e.0) (least_both (Clashes ps) (λ k. k ≡ f) found (Some f) least (least_one f)) (least_one e.0))
        (λ k either. ⊎_elim (λ h. ⊎_elim (kept k) (λ s. subst (Clashes (ps ++ e ∷ [])) (sym s) (two_clash (ps ++ e ∷ []) f both.0)) h) (λ s. subst (Clashes (ps ++ e ∷ [])) (sym s) (two_clash (ps ++ e ∷ []) e.0 both.1)) either)
        (λ k c. ⊎_elim (λ two. inl (inl (two_clash ps k two))) (λ h. ⊎_elim (λ s. inl (inr s)) (λ s. inr s) h.1) (known_two ps e f k first (has_two (ps ++ e ∷ []) k c)))

-- ---- the pairs so far: the first key of each value, and the least that clashes

pub record HasSeen (pairs : List Pair) (firsts : BTreeMap Ordered Key) (found : Option Key) : Type 0 where
  pub firsts_are : (value : Ordered) → get ordered_cmp firsts value ≡ first_with value pairs
  pub least : IsLeast (Clashes pairs) found

pub none_seen : (pairs : List Pair) (firsts : BTreeMap Ordered Key) → IsEmpty firsts → HasSeen (take 0 pairs) firsts None
none_seen pairs firsts empty = record { firsts_are = λ value. nothing value; least = λ key c. no_pair c.number c.value key c.at }
  where
    nothing : (value : Ordered) → get ordered_cmp firsts value ≡ None
    nothing value = cc

    no_pair : (n : ℕ) (value : Got) (key : Key) → slice_get {X = Pair} [] n ≡ Some (key, value) → ⊥
    no_pair n value key at = cc

one_more : (pairs : List Pair) (i : ℕ) (e : Pair) → i < length pairs → e ≡ get_or pairs i e → take i pairs ++ e ∷ [] ≡ take (i + 1) pairs
one_more pairs i e less is = ap (λ x. take i pairs ++ x ∷ []) is ∙ sym (take_more pairs i e less)

-- the value is new
pub fresh_seen : (pairs : List Pair) (i : ℕ) (e : Pair) (value : Ordered) (firsts more : BTreeMap Ordered Key) (first found : Option Key) → i < length pairs → e ≡ get_or pairs i e → HasSeen (take i pairs) firsts found
    → value ≡ in_order e.1 → first ≡ get ordered_cmp firsts value → first ≡ None
    → ((other : Ordered) → get ordered_cmp more other ≡ cond (eq_by_cmp ordered_cmp value other) (Some e.0) (get ordered_cmp firsts other)) → HasSeen (take (i + 1) pairs) more found
fresh_seen pairs i e value firsts more first found less is seen at looked none noted = subst (λ ps. HasSeen ps more found) (one_more pairs i e less is) (record { firsts_are = firsts_are; least = fresh_least (take i pairs) e found absent seen.least })
  where
    absent : first_with (in_order e.1) (take i pairs) ≡ None
    absent = ap (λ v. first_with v (take i pairs)) (sym at) ∙ sym (seen.firsts_are value) ∙ sym looked ∙ none

    firsts_are : (other : Ordered) → get ordered_cmp more other ≡ first_with other (take i pairs ++ e ∷ [])
    firsts_are other =
        noted other ∙ ap (λ v. cond (eq_by_cmp ordered_cmp v other) (Some e.0) (get ordered_cmp firsts other)) at ∙ ap (cond (eq_by_cmp ordered_cmp (in_order e.1) other) (Some e.0)) (seen.firsts_are other)
        ∙ by (eq_by_cmp ordered_cmp (in_order e.1) other) refl ∙ sym (first_more other (take i pairs) e)
      where
        by : (b : Bool) → eq_by_cmp ordered_cmp (in_order e.1) other ≡ b → cond b (Some e.0) (first_with other (take i pairs)) ≡ or_first (first_with other (take i pairs)) (cond b (Some e.0) None)
        by true same = ap (λ o. or_first o (Some e.0)) (sym absent ∙ ap (λ v. first_with v (take i pairs)) (tells_apart exact_ordered (in_order e.1) other same))
        by false same = sym (or_none (first_with other (take i pairs)))

-- the value was there
pub known_seen : (pairs : List Pair) (i : ℕ) (e : Pair) (value : Ordered) (firsts : BTreeMap Ordered Key) (f : Key) (first found new : Option Key) → i < length pairs → e ≡ get_or pairs i e
    → HasSeen (take i pairs) firsts found → value ≡ in_order e.1 → first ≡ get ordered_cmp firsts value → first ≡ Some f → new ≡ with_both found f e.0 → HasSeen (take (i + 1) pairs) firsts new
known_seen pairs i e value firsts f first found new less is seen at looked some more =
    subst (λ ps. HasSeen ps firsts new) (one_more pairs i e less is) (record {
      firsts_are = firsts_are;
      least = subst (IsLeast (Clashes (take i pairs ++ e ∷ []))) (sym more) (known_least (take i pairs) e f found (first_stands e.1 (take i pairs) f present) seen.least);
    })
  where
    present : first_with (in_order e.1) (take i pairs) ≡ Some f
    present = ap (λ v. first_with v (take i pairs)) (sym at) ∙ sym (seen.firsts_are value) ∙ sym looked ∙ some

    firsts_are : (other : Ordered) → get ordered_cmp firsts other ≡ first_with other (take i pairs ++ e ∷ [])
    firsts_are other = seen.firsts_are other ∙ by (eq_by_cmp ordered_cmp (in_order e.1) other) refl ∙ sym (first_more other (take i pairs) e)
      where
        by : (b : Bool) → eq_by_cmp ordered_cmp (in_order e.1) other ≡ b → first_with other (take i pairs) ≡ or_first (first_with other (take i pairs)) (cond b (Some e.0) None)
        by true same =
            let there : first_with other (take i pairs) ≡ Some f = ap (λ v. first_with v (take i pairs)) (sym (tells_apart exact_ordered (in_order e.1) other same)) ∙ present in
            there ∙ sym (ap (λ o. or_first o (Some e.0)) there)
        by false same = sym (or_none (first_with other (take i pairs)))

pub all_seen : (pairs : List Pair) (i : ℕ) (firsts : BTreeMap Ordered Key) (found : Option Key) → length pairs ≤ i → HasSeen (take i pairs) firsts found → IsLeast (Clashes pairs) found
all_seen pairs i firsts found le seen = subst (λ ps. IsLeast (Clashes ps) found) (take_all i pairs le) seen.least

pub ruleset clashing = (none_seen, fresh_seen, known_seen, all_seen)
