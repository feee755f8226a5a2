-- Lists by index.
use Rattle.std.proofs.Common.{◌≡◌, ◌⊎◌, inl, inr, ℕ, zero, suc, ◌<◌, ◌≤◌, List, [], ◌∷◌, ◌++◌, length, take, Some, slice_get, refl, ap, arith}

-- what stands stays when more is put behind
pub get_front : {A : Type 0} (xs ys : List A) (q : ℕ) (x : A) → slice_get xs q ≡ Some x → slice_get (xs ++ ys) q ≡ Some x
get_front [] ys q x e = absurd cc
get_front (y ∷ xs) ys zero x e = e
get_front (y ∷ xs) ys (suc q) x e = get_front xs ys q x e

pub get_last : {A : Type 0} (xs : List A) (x : A) → slice_get (xs ++ x ∷ []) (length xs) ≡ Some x
get_last [] x = refl
get_last (y ∷ xs) x = get_last xs x

-- one put behind is the old list's or the new last
pub get_pushed : {A : Type 0} (xs : List A) (y : A) (q : ℕ) (x : A) → slice_get (xs ++ y ∷ []) q ≡ Some x → (slice_get xs q ≡ Some x) ⊎ ((q ≡ length xs) × (y ≡ x))
get_pushed [] y zero x e = inr (refl, cc)
get_pushed [] y (suc q) x e = absurd cc
get_pushed (z ∷ xs) y zero x e = inl e
get_pushed (z ∷ xs) y (suc q) x e = up (get_pushed xs y q x e)
  where
    up : (slice_get xs q ≡ Some x) ⊎ ((q ≡ length xs) × (y ≡ x)) → (slice_get xs q ≡ Some x) ⊎ ((suc q ≡ suc (length xs)) × (y ≡ x))
    up (inl h) = inl h
    up (inr h) = inr (ap suc h.0, h.1)

pub get_within : {A : Type 0} (xs : List A) (q : ℕ) (x : A) → slice_get xs q ≡ Some x → q < length xs
get_within [] q x e = absurd cc
get_within (y ∷ xs) zero x e = omega arith
get_within (y ∷ xs) (suc q) x e = let ih : q < length xs = get_within xs q x e in omega (arith, ih)

pub get_some : {A : Type 0} (xs : List A) (q : ℕ) → q < length xs → (x : A) × (slice_get xs q ≡ Some x)
get_some [] q lt = absurd (omega (arith, lt))
get_some (y ∷ xs) zero lt = (y, refl)
get_some (y ∷ xs) (suc q) lt = get_some xs q (omega (arith, lt))

pub take_front : {A : Type 0} (n : ℕ) (xs ys : List A) → n ≤ length xs → take n (xs ++ ys) ≡ take n xs
take_front zero xs ys le = refl
take_front (suc n) [] ys le = absurd (omega (arith, le))
take_front (suc n) (x ∷ xs) ys le = ap (λ l. x ∷ l) (take_front n xs ys (omega (arith, le)))

pub get_taken : {A : Type 0} (k : ℕ) (xs : List A) (q : ℕ) (x : A) → q < k → slice_get xs q ≡ Some x → slice_get (take k xs) q ≡ Some x
get_taken zero xs q x lt e = absurd (omega (arith, lt))
get_taken (suc k) [] q x lt e = absurd cc
get_taken (suc k) (y ∷ xs) zero x lt e = e
get_taken (suc k) (y ∷ xs) (suc q) x lt e = get_taken k xs q x (omega (arith, lt)) e
