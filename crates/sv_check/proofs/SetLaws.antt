-- A set that gets one element more has those of a list with one more.
use Rattle.std.proofs.Common.{◌≡◌, ℕ, ◌+◌, ◌<◌, ◌||◌, cond, Bool, true, false, List, [], ◌∷◌, ◌++◌, take, get_or, length, refl, sym, ap, ◌∙◌}
use Rattle.std.specs.Prelude.{map}
use Rattle.std.specs.List.{list_any, flat_map}
use Rattle.std.specs.declared.cmp.Ordering.{Ordering}
use Rattle.std.specs.Ordering.{eq_by_cmp}
use Rattle.std.specs.Cmp.{IsTotalOrder}
use Rattle.std.specs.BTreeSet.{BTreeSet, contains}
use Rattle.std.proofs.lemmas.Cmp.{eq_by_cmp_equiv}
use Rattle.std.proofs.lemmas.List.{map-append, take_more, append-nil}
use Rattle.std.proofs.lemmas.List.Concat.{flat_map-append}
use Rattle.std.proofs.lemmas.List.Folds.{list_any-append}

-- one element, or those before
either : {K : Type 0} (R : K → K → Ordering) → IsTotalOrder R → (k q : K) (h : Bool) → cond (eq_by_cmp R k q) true h ≡ (h || (eq_by_cmp R q k || false))
either R total k q h = split (eq_by_cmp R k q) h refl
  where
    split : (b h : Bool) → eq_by_cmp R k q ≡ b → cond b true h ≡ (h || (eq_by_cmp R q k || false))
    split true true is = refl
    split true false is = sym (ap (λ x. x || false) ((eq_by_cmp_equiv total).symm q k ∙ is))
    split false true is = refl
    split false false is = sym (ap (λ x. x || false) ((eq_by_cmp_equiv total).symm q k ∙ is))

module _ {K : Type 0} (R : K → K → Ordering) (total : IsTotalOrder R) where
  pub one_more : (old new : BTreeSet K) (k q : K) (ks : List K) → contains R new q ≡ cond (eq_by_cmp R k q) true (contains R old q)
      → contains R old q ≡ list_any (eq_by_cmp R q) ks → contains R new q ≡ list_any (eq_by_cmp R q) (ks ++ k ∷ [])
  one_more old new k q ks updated before =
      updated ∙ either R total k q (contains R old q) ∙ ap (λ b. b || list_any (eq_by_cmp R q) (k ∷ [])) before ∙ sym (list_any-append (eq_by_cmp R q) ks (k ∷ []))

  pub one_noted : (old new : BTreeSet K) (k q : K) → contains R new q ≡ cond (eq_by_cmp R k q) true (contains R old q)
      → contains R new q ≡ (contains R old q || list_any (eq_by_cmp R q) (k ∷ []))
  one_noted old new k q updated = updated ∙ either R total k q (contains R old q)

or_nothing : (b : Bool) → b ≡ (b || false)
or_nothing true = refl
or_nothing false = refl

or_either : (a b c : Bool) → ((a || b) || c) ≡ (a || (b || c))
or_either true b c = refl
or_either false b c = refl

-- nothing more is noted
pub none_noted : (b : Bool) → b ≡ (b || false)
none_noted = or_nothing

module _ {A K : Type 0} where
  pub map_more : (f : A → K) (xs : List A) (i : ℕ) (d : A) → i < length xs → map f (take i xs) ++ f (get_or xs i d) ∷ [] ≡ map f (take (i + 1) xs)
  map_more f xs i d lt = sym (ap (map f) (take_more xs i d lt) ∙ map-append f (take i xs) (get_or xs i d ∷ []))

  pub flat_more : (f : A → List K) (xs : List A) (i : ℕ) (d : A) → i < length xs → flat_map f (take i xs) ++ f (get_or xs i d) ≡ flat_map f (take (i + 1) xs)
  flat_more f xs i d lt = sym (ap (flat_map f) (take_more xs i d lt) ∙ flat_map-append f (take i xs) (get_or xs i d ∷ []) ∙ ap (λ l. flat_map f (take i xs) ++ l) (append-nil (f (get_or xs i d))))

-- what is noted of one, and before it of others
pub noted_more : {K A : Type 0} (R : K → K → Ordering) (f : A → List K) (xs : List A) (i : ℕ) (x : A) (b now next : Bool) (q : K) → i < length xs → x ≡ get_or xs i x
    → now ≡ (b || list_any (eq_by_cmp R q) (flat_map f (take i xs))) → next ≡ (now || list_any (eq_by_cmp R q) (f x))
    → next ≡ (b || list_any (eq_by_cmp R q) (flat_map f (take (i + 1) xs)))
noted_more {K} {A} R f xs i x b now next q lt is before after =
    after ∙ ap (λ h. h || list_any (eq_by_cmp R q) (f x)) before
    ∙ or_either b (list_any (eq_by_cmp R q) (flat_map f (take i xs))) (list_any (eq_by_cmp R q) (f x))
    ∙ ap (λ h. b || h) (sym (list_any-append (eq_by_cmp R q) (flat_map f (take i xs)) (f x))
    ∙ ap (λ y. list_any (eq_by_cmp R q) (flat_map f (take i xs) ++ f y)) is ∙ ap (list_any (eq_by_cmp R q)) (flat_more f xs i x lt))
