-- A list by numbers, in which `empty` stands where nothing was put.
use Rattle.std.specs.Prelude.{ℕ, zero, suc, List, [], ◌∷◌, slice_get, unwrap_or}

abbrev pub item : {A : Type 0} → A → List A → ℕ → A
item empty xs n = unwrap_or (slice_get xs n) empty

abbrev pub with_item : {A : Type 0} → A → ℕ → A → List A → List A
with_item empty zero x [] = x ∷ []
with_item empty zero x (y ∷ ys) = x ∷ ys
with_item empty (suc n) x [] = empty ∷ with_item empty n x []
with_item empty (suc n) x (y ∷ ys) = y ∷ with_item empty n x ys
