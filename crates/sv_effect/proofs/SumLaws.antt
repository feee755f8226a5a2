-- Sums over origins, of which one part grows.
use Rattle.std.proofs.Common.{◌≡◌, ◌⊎◌, inl, inr, ℕ, zero, suc, ◌<◌, List, [], ◌∷◌, ◌++◌, refl, sym, ap, ◌∙◌, arith}
use Rattle.std.specs.Prelude.{ℤ, ◌+ℤ◌}
use Rattle.std.proofs.lemmas.Int.{ints}
use Rattle.std.proofs.lemmas.Bool.{cases_eq}
use Rattle.sv_effect.specs.declared.ops.Write.{Write}
use Rattle.sv_effect.specs.StampedTables.{Stamped}
use Rattle.sv_effect.specs.TablesOfCut.{sum_to, sum_of}

-- a sum whose parts below n are the same
sum_to-same : (f g : ℕ → ℤ) (n : ℕ) → ((o : ℕ) → o < n → f o ≡ g o) → sum_to f n ≡ sum_to g n
unfolding sum_to
sum_to-same f g zero same = refl
sum_to-same f g (suc n) same = λ i. sum_to-same f g n (λ o lt. same o (omega (arith, lt))) i +ℤ same n (omega arith) i

-- a sum of which one part grows
pub sum_to-one : (f g : ℕ → ℤ) (n o : ℕ) (x : ℤ) → o < n → g o ≡ (f o +ℤ x) → ((p : ℕ) → (p ≡ o → ⊥) → g p ≡ f p) → sum_to g n ≡ (sum_to f n +ℤ x)
unfolding sum_to
sum_to-one f g zero o x lt here others = absurd (omega (arith, lt))
sum_to-one f g (suc n) o x lt here others = split (cases_eq o n) (λ below. sum_to-one f g n o x below here others)
  where
    split : (o ≡ n) ⊎ (o ≡ n → ⊥) → (o < n → sum_to g n ≡ (sum_to f n +ℤ x)) → (sum_to g n +ℤ g n) ≡ ((sum_to f n +ℤ f n) +ℤ x)
    split (inl is) ih =
        let a : sum_to g n ≡ sum_to f n = sum_to-same g f n (λ p less. others p (λ e. absurd (omega (arith, e, is, less)))) in
        let b : g n ≡ (f n +ℤ x) = ap g (sym is) ∙ here ∙ ap (λ k. f k +ℤ x) is in
        omega (arith, ints, a, b)
    split (inr apart) ih =
        let a : sum_to g n ≡ (sum_to f n +ℤ x) = ih (omega (arith, lt, apart)) in
        let b : g n ≡ f n = others n (λ e. apart (sym e)) in
        omega (arith, ints, a, b)

pub sum_of-append : (xs ys : List (Stamped Write)) → sum_of (xs ++ ys) ≡ (sum_of xs +ℤ sum_of ys)
sum_of-append [] ys = omega (arith, ints)
sum_of-append (x ∷ xs) ys = let ih : sum_of (xs ++ ys) ≡ (sum_of xs +ℤ sum_of ys) = sum_of-append xs ys in omega (arith, ints, ih)
