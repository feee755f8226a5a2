-- Lists of one word.
use Rattle.std.proofs.Common.{◌≡◌, ℕ, ◌≤◌, ◌<◌, List, [], ◌∷◌, length, Bool, nat_eq, slice_index_or, sym, ap, arith}
use Rattle.std.specs.Prelude.{map}
use Rattle.std.specs.Bool.{Decides}
use Rattle.std.proofs.lemmas.Slice.Eq.{slice_eq-Decides}
use Rattle.std.proofs.lemmas.Bool.Decides.{Decides-eqb}
use Rattle.std.specs.Cmp.Lexicographic.{pointwise}

pub same_bytes : (xs ys : List ℕ) (r : Bool) → r ≡ pointwise nat_eq xs ys → Decides r (xs ≡ ys)
same_bytes xs ys r e = slice_eq-Decides Decides-eqb xs ys r e

pub ruleset words = same_bytes

-- a list of one item
pub only_one : {A B : Type 0} (f : A → B) (xs : List A) (x : A) → 1 ≤ length xs → length xs < 2 → x ≡ slice_index_or xs 0 x → map f xs ≡ f x ∷ []
only_one f [] x least below is = absurd (omega arith)
only_one f (y ∷ []) x least below is = ap (λ z. f z ∷ []) (sym is)
only_one f (y ∷ z ∷ zs) x least below is = absurd (omega arith)
