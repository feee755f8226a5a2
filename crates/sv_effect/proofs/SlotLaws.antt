-- How a list by numbers is put into: where the number is there, it is set; behind the end, the list is filled first.
use Rattle.std.proofs.Common.{◌≡◌, ℕ, zero, suc, ◌<◌, List, [], ◌∷◌, ◌++◌, length, refl, ap, arith}
use Rattle.std.specs.Prelude.{slice_set}
use Rattle.sv_app.specs.Slots.{with_item}

pub set_there : {A : Type 0} (empty : A) (xs : List A) (n : ℕ) (x : A) → n < length xs → with_item empty n x xs ≡ slice_set xs n x
set_there empty [] n x h = absurd (omega arith)
set_there empty (y ∷ ys) zero x h = refl
set_there empty (y ∷ ys) (suc n) x h = let k : n < length ys = omega arith in ap (λ zs. y ∷ zs) (set_there empty ys n x k)

pub push_there : {A : Type 0} (empty : A) (xs : List A) (n : ℕ) (x : A) → length xs ≡ n → with_item empty n x xs ≡ xs ++ x ∷ []
push_there empty [] zero x h = refl
push_there empty [] (suc n) x h = absurd (omega arith)
push_there empty (y ∷ ys) zero x h = absurd (omega arith)
push_there empty (y ∷ ys) (suc n) x h = let k : length ys ≡ n = omega arith in ap (λ zs. y ∷ zs) (push_there empty ys n x k)

pub filled : {A : Type 0} (empty : A) (xs : List A) (n : ℕ) (x : A) → length xs < n → with_item empty n x (xs ++ empty ∷ []) ≡ with_item empty n x xs
filled empty [] zero x h = absurd (omega arith)
filled empty [] (suc n) x h = refl
filled empty (y ∷ ys) zero x h = absurd (omega arith)
filled empty (y ∷ ys) (suc n) x h = let k : length ys < n = omega arith in ap (λ zs. y ∷ zs) (filled empty ys n x k)

pub ruleset slots = (set_there, push_there, filled)
