-- What is held after all candidates is the first of them.
use Rattle.std.proofs.Common.{subst, ◌≡◌, ℕ, suc, zero, Bool, true, false, List, [], ◌∷◌, refl, arith, Some, None}
use Rattle.std.specs.List.{All, Contains}
use Rattle.std.proofs.lemmas.Bool.Decides.{nat_tests}
use Rattle.std.specs.Prelude.{nat_lt, ◌==◌, ◌&&◌, ◌||◌, if◌then◌else◌}
use Rattle.sv_app.specs.declared.refusals.Refusal.{Refusal}
use Rattle.sv_app.specs.Codes.{number_of}
use Rattle.sv_app.specs.Firsts.{comes_before, IsFirst}
use Rattle.sv_typing.specs.Noted.{sooner, noted}

-- the same order, of a line, a column and a number
abbrev pub lesser : ℕ → ℕ → ℕ → ℕ → ℕ → ℕ → Bool
lesser a b c x y z = (nat_lt a x || (a == x && nat_lt b y)) || ((a == x && b == y) && nat_lt c z)

lesser_irreflexive : (a b c : ℕ) → lesser a b c a b c ≡ false
lesser_irreflexive a b c = grind (arith, nat_tests)

-- nothing that isn't before a second is before what isn't after the second
lesser_trans : (a b c x y z u v w : ℕ) → lesser a b c x y z ≡ true → lesser a b c u v w ≡ false → lesser x y z u v w ≡ false
lesser_trans a b c x y z u v w p q = grind (arith, nat_tests, p, q)

lesser_between : (a b c x y z u v w : ℕ) → lesser x y z a b c ≡ false → lesser a b c u v w ≡ false → lesser x y z u v w ≡ false
lesser_between a b c x y z u v w p q = grind (arith, nat_tests, p, q)

itself : (r : Refusal) → comes_before r r ≡ false
itself r = lesser_irreflexive r.spot.line r.spot.col (number_of r.code)

behind_first : (x h r : Refusal) → comes_before x h ≡ true → comes_before x r ≡ false → comes_before h r ≡ false
behind_first x h r = lesser_trans x.spot.line x.spot.col (number_of x.code) h.spot.line h.spot.col (number_of h.code) r.spot.line r.spot.col (number_of r.code)

behind_held : (x h r : Refusal) → comes_before x h ≡ false → comes_before h r ≡ false → comes_before x r ≡ false
behind_held x h r = lesser_between h.spot.line h.spot.col (number_of h.code) x.spot.line x.spot.col (number_of x.code) r.spot.line r.spot.col (number_of r.code)

abbrev NoneBefore : Refusal → List Refusal → Type 0
NoneBefore r xs = All (λ other. comes_before other r ≡ false) xs

none_cons : (r x : Refusal) (xs : List Refusal) → comes_before x r ≡ false → NoneBefore r xs → NoneBefore r (x ∷ xs)
none_cons r x xs p ps zero d h = p
none_cons r x xs p ps (suc k) d h = ps k d (omega (arith, h))

none_tail : (r x : Refusal) (xs : List Refusal) → NoneBefore r (x ∷ xs) → NoneBefore r xs
none_tail r x xs ps k d h = ps (suc k) d (omega (arith, h))

contains_more : (x y : Refusal) (xs : List Refusal) → Contains xs y → Contains (x ∷ xs) y
contains_more x y xs c = (suc c.0, omega (arith, c.1), c.2)

-- another element behind the first
contains_between : (x y z : Refusal) (xs : List Refusal) → Contains (x ∷ xs) y → Contains (x ∷ z ∷ xs) y
contains_between x y z xs (zero, h, e) = (0, omega arith, e)
contains_between x y z xs (suc k, h, e) = (suc (suc k), omega (arith, h), e)

one_more : (b : Bool) (held x r : Refusal) (xs : List Refusal) → comes_before x held ≡ b → IsFirst ((if b then x else held) ∷ xs) r → IsFirst (held ∷ x ∷ xs) r
one_more true held x r xs e f = record {
  is = contains_more held r (x ∷ xs) f.is;
  first = none_cons r held (x ∷ xs) (behind_first x held r e (f.first 0 x (omega arith))) f.first;
}
one_more false held x r xs e f = record {
  is = contains_between held r x xs f.is;
  first =
      let own : comes_before held r ≡ false = f.first 0 held (omega arith) in
      none_cons r held (x ∷ xs) own (none_cons r x xs (behind_held x held r e own) (none_tail r held xs f.first));
}

pub first_behind : (held r : Refusal) (xs : List Refusal) → noted (Some held) xs ≡ Some r → IsFirst (held ∷ xs) r
first_behind held r [] e = let same : held ≡ r = cc in record {
  is = (0, omega arith, same);
  first = none_cons r held [] (rw same (itself r)) (λ k d h. absurd (omega (arith, h)));
}
first_behind held r (x ∷ xs) e = one_more (comes_before x held) held x r xs refl (first_behind (sooner (Some held) x) r xs e)

-- what is held in the end is the first candidate
pub noted_is_first : (xs : List Refusal) (r : Refusal) → noted None xs ≡ Some r → IsFirst xs r
noted_is_first [] r e = absurd cc
noted_is_first (x ∷ xs) r e = first_behind x r xs e

never_lost : (held : Refusal) (xs : List Refusal) → noted (Some held) xs ≡ None → ⊥
never_lost held [] e = cc
never_lost held (x ∷ xs) e = never_lost (sooner (Some held) x) xs e

-- nothing is held where nothing is wrong alone
pub noted_is_none : (xs : List Refusal) → noted None xs ≡ None → xs ≡ []
noted_is_none [] e = refl
noted_is_none (x ∷ xs) e = absurd (never_lost x xs e)

pub lesser_neither : (a b c x y z : ℕ) → lesser a b c x y z ≡ false → lesser x y z a b c ≡ false → (a ≡ x) × (b ≡ y) × (c ≡ z)
lesser_neither a b c x y z p q =
    let line : a ≡ x = grind (arith, nat_tests, p, q) in
    let column : b ≡ y = grind (arith, nat_tests, p, q, line) in
    let number : c ≡ z = grind (arith, nat_tests, p, q, line, column) in
    (line, column, number)

-- no other candidate comes before one that is the first
no_other : (candidates : List Refusal) (a b : Refusal) → IsFirst candidates a → IsFirst candidates b → comes_before a b ≡ false
no_other candidates a b f g = subst (λ other. comes_before other b ≡ false) f.is.2 (g.first f.is.0 a f.is.1)

pub first_is_one : (candidates : List Refusal) (a b : Refusal) → IsFirst candidates a → IsFirst candidates b
    → (a.spot.line ≡ b.spot.line) × (a.spot.col ≡ b.spot.col) × (number_of a.code ≡ number_of b.code)
first_is_one candidates a b f g =
    lesser_neither a.spot.line a.spot.col (number_of a.code) b.spot.line b.spot.col (number_of b.code) (no_other candidates a b f g) (no_other candidates b a g f)
