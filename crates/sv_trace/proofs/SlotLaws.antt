-- A list by numbers after something was put into it.
use Rattle.std.proofs.Common.{◌≡◌, ◌∙◌, ℕ, zero, suc, ◌==◌, Bool, true, false, List, [], ◌∷◌, refl, sym, ap, subst, arith, slice_get, map, Some}
use Rattle.std.proofs.lemmas.Bool.Decides.{nat_tests}
use Rattle.sv_app.specs.Slots.{item, with_item}
use Rattle.sv_app.proofs.TestLaws.{test_same}

pub item_here : {A : Type 0} (d x : A) (n : ℕ) (xs : List A) → item d (with_item d n x xs) n ≡ x
item_here d x zero [] = refl
item_here d x zero (y ∷ ys) = refl
item_here d x (suc n) [] = item_here d x n []
item_here d x (suc n) (y ∷ ys) = item_here d x n ys

nothing_there : {A : Type 0} (d : A) (n : ℕ) → item d [] n ≡ d
nothing_there d zero = refl
nothing_there d (suc n) = refl

pub item_other : {A : Type 0} (d x : A) (n m : ℕ) (xs : List A) → (n ≡ m → ⊥) → item d (with_item d n x xs) m ≡ item d xs m
item_other d x zero zero xs differ = absurd (differ refl)
item_other d x zero (suc m) [] differ = nothing_there d m
item_other d x zero (suc m) (y ∷ ys) differ = refl
item_other d x (suc n) zero [] differ = refl
item_other d x (suc n) zero (y ∷ ys) differ = refl
item_other d x (suc n) (suc m) [] differ = item_other d x n m [] (λ e. differ (ap suc e)) ∙ nothing_there d m
item_other d x (suc n) (suc m) (y ∷ ys) differ = item_other d x n m ys (λ e. differ (ap suc e))

test_other : (n m : ℕ) → (n == m) ≡ false → n ≡ m → ⊥
test_other n m e same = grind (arith, nat_tests, e, same)

-- what holds at each number holds of what was put there, and of the others as they were
pub at_items : {A : Type 0} (P : ℕ → A → Type 0) (d x : A) (n m : ℕ) (xs : List A) → P n x → ((n ≡ m → ⊥) → P m (item d xs m)) → P m (item d (with_item d n x xs) m)
at_items P d x n m xs here others = by_test (n == m) refl
  where
    by_test : (b : Bool) → (n == m) ≡ b → P m (item d (with_item d n x xs) m)
    by_test true e =
        let same : n ≡ m = test_same n m e in
        subst (λ k. P k (item d (with_item d n x xs) k)) same (subst (P n) (sym (item_here d x n xs)) here)
    by_test false e = subst (P m) (sym (item_other d x n m xs (test_other n m e))) (others (test_other n m e))

-- what a mapped list has is made of what the list has there
pub at_mapped : {A B : Type 0} (f : A → B) (xs : List A) (n : ℕ) (b : B) → slice_get (map f xs) n ≡ Some b → (a : A) × (slice_get xs n ≡ Some a) × (f a ≡ b)
at_mapped f [] n b at = absurd cc
at_mapped f (x ∷ xs) zero b at = (x, refl, (let same : f x ≡ b = cc in same))
at_mapped f (x ∷ xs) (suc n) b at = at_mapped f xs n b at
