-- Sums over the numbers below one, and measures of lists of operations that add up: by origins, of a cut, and with one operation more.
use Rattle.std.proofs.Common.{◌≡◌, ◌⊎◌, inl, inr, ℕ, zero, suc, ◌<◌, ◌≤◌, ◌+◌, ◌*◌, List, [], ◌∷◌, ◌++◌, take, refl, sym, ap, ◌∙◌, arith}
use Rattle.std.proofs.lemmas.Bool.{cases_eq}
use Rattle.sv_effect.specs.declared.ops.Op.{Op}
use Rattle.sv_effect.specs.Cut.{Cut, Medium, held}
use Rattle.sv_effect.specs.TablesOfCut.{Family, all_to}
use Rattle.sv_effect.proofs.Members.{Grown}
use Rattle.sv_core.specs.Room.{inserts_in, changes_in}

-- a sum over the numbers below n
unfoldable pub sum_below : (ℕ → ℕ) → ℕ → ℕ
sum_below f zero = 0
sum_below f (suc n) = sum_below f n + f n

pub sum_below-same : (f g : ℕ → ℕ) (n : ℕ) → ((k : ℕ) → k < n → f k ≡ g k) → sum_below f n ≡ sum_below g n
unfolding sum_below
sum_below-same f g zero same = refl
sum_below-same f g (suc n) same = λ i. sum_below-same f g n (λ k lt. same k (omega (arith, lt))) i + same n (omega arith) i

-- one part is greater by x
pub sum_below-one : (f g : ℕ → ℕ) (n k x : ℕ) → k < n → g k ≡ f k + x → ((j : ℕ) → (j ≡ k → ⊥) → g j ≡ f j) → sum_below g n ≡ sum_below f n + x
unfolding sum_below
sum_below-one f g zero k x lt here others = absurd (omega (arith, lt))
sum_below-one f g (suc n) k x lt here others = split (cases_eq k n) (λ below. sum_below-one f g n k x below here others)
  where
    split : (k ≡ n) ⊎ (k ≡ n → ⊥) → (k < n → sum_below g n ≡ sum_below f n + x) → sum_below g n + g n ≡ sum_below f n + f n + x
    split (inl is) ih =
        let a : sum_below g n ≡ sum_below f n = sum_below-same g f n (λ j less. others j (λ e. absurd (omega (arith, e, is, less)))) in
        let b : g n ≡ f n + x = ap g (sym is) ∙ here ∙ ap (λ j. f j + x) is in
        omega (arith, a, b)
    split (inr apart) ih =
        let a : sum_below g n ≡ sum_below f n + x = ih (omega (arith, lt, apart)) in
        let b : g n ≡ f n = others n (λ e. apart (sym e)) in
        omega (arith, a, b)

pub sum_below-le : (f g : ℕ → ℕ) (n : ℕ) → ((k : ℕ) → f k ≤ g k) → sum_below f n ≤ sum_below g n
unfolding sum_below
sum_below-le f g zero le = omega arith
sum_below-le f g (suc n) le = let a : sum_below f n ≤ sum_below g n = sum_below-le f g n le in let b : f n ≤ g n = le n in omega (arith, a, b)

pub sum_below-most : (f : ℕ → ℕ) (n most : ℕ) → ((k : ℕ) → f k ≤ most) → sum_below f n ≤ n * most
unfolding sum_below
sum_below-most f zero most le = omega arith
sum_below-most f (suc n) most le = let a : sum_below f n ≤ n * most = sum_below-most f n most le in let b : f n ≤ most = le n in omega (arith, a, b)

pub sum_below-zero : (f : ℕ → ℕ) (n : ℕ) → ((k : ℕ) → f k ≡ 0) → sum_below f n ≡ 0
unfolding sum_below
sum_below-zero f zero none = refl
sum_below-zero f (suc n) none = let a : sum_below f n ≡ 0 = sum_below-zero f n none in let b : f n ≡ 0 = none n in omega (arith, a, b)

-- a measure of lists of operations that adds up
pub record AddsUp (F : List Op → ℕ) : Type 0 where
  pub none : F [] ≡ 0
  pub both : (xs ys : List Op) → F (xs ++ ys) ≡ F xs + F ys

pub inserts_add_up : AddsUp inserts_in
inserts_add_up = record { none = refl; both = both }
  where
    both : (xs ys : List Op) → inserts_in (xs ++ ys) ≡ inserts_in xs + inserts_in ys
    both [] ys = omega arith
    both (x ∷ xs) ys = let ih : inserts_in (xs ++ ys) ≡ inserts_in xs + inserts_in ys = both xs ys in omega (arith, ih)

pub changes_add_up : AddsUp changes_in
changes_add_up = record { none = refl; both = both }
  where
    both : (xs ys : List Op) → changes_in (xs ++ ys) ≡ changes_in xs + changes_in ys
    both [] ys = omega arith
    both (x ∷ xs) ys = let ih : changes_in (xs ++ ys) ≡ changes_in xs + changes_in ys = both xs ys in omega (arith, ih)

-- a measure of all lists of a family is the sum of those of each
pub all_sum : (F : List Op → ℕ) → AddsUp F → (f : Family Op) (n : ℕ) → F (all_to f n) ≡ sum_below (λ o. F (f o)) n
unfolding all_to sum_below
all_sum F adds f zero = adds.none
all_sum F adds f (suc n) = adds.both (all_to f n) (f n) ∙ ap (λ k. k + F (f n)) (all_sum F adds f n)

-- one list has more
pub all_grown : (F : List Op → ℕ) → AddsUp F → (f g : Family Op) (o : ℕ) (more : List Op) → Grown f g o more → o < 9 → F (all_to g 9) ≡ F (all_to f 9) + F more
all_grown F adds f g o more grown small =
    all_sum F adds g 9
    ∙ sum_below-one (λ p. F (f p)) (λ p. F (g p)) 9 o (F more) small (ap F grown.here ∙ adds.both (f o) more) (λ p apart. ap F (grown.others p apart))
    ∙ ap (λ k. k + F more) (sym (all_sum F adds f 9))

-- no list has any
pub all_none : (F : List Op → ℕ) → AddsUp F → (f : Family Op) → ((o : ℕ) → f o ≡ []) → F (all_to f 9) ≡ 0
all_none F adds f none = all_sum F adds f 9 ∙ sum_below-zero (λ o. F (f o)) 9 (λ o. ap F (none o) ∙ adds.none)

taken_le : (F : List Op → ℕ) → AddsUp F → (n : ℕ) (ops : List Op) → F (take n ops) ≤ F ops
taken_le F adds zero ops = let a : F [] ≡ 0 = adds.none in omega (arith, a)
taken_le F adds (suc n) [] = omega arith
taken_le F adds (suc n) (op ∷ ops) =
    let a : F (op ∷ take n ops) ≡ F (op ∷ []) + F (take n ops) = adds.both (op ∷ []) (take n ops) in
    let b : F (op ∷ ops) ≡ F (op ∷ []) + F ops = adds.both (op ∷ []) ops in
    let ih : F (take n ops) ≤ F ops = taken_le F adds n ops in
    omega (arith, a, b, ih)

-- a cut holds no more than there is
pub held_le : (F : List Op → ℕ) → AddsUp F → (m : Medium) (cut : Cut) → F (all_to (held m cut) 9) ≤ F (all_to m 9)
held_le F adds m cut =
    let a : F (all_to (held m cut) 9) ≡ sum_below (λ o. F (held m cut o)) 9 = all_sum F adds (held m cut) 9 in
    let b : F (all_to m 9) ≡ sum_below (λ o. F (m o)) 9 = all_sum F adds m 9 in
    let c : sum_below (λ o. F (held m cut o)) 9 ≤ sum_below (λ o. F (m o)) 9 =
    sum_below-le (λ o. F (held m cut o)) (λ o. F (m o)) 9 (λ o. taken_le F adds (cut o) (m o)) in
    omega (arith, a, b, c)
