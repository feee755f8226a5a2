-- A list of lists, made one by one, and of what each of a list stands for.
use Rattle.std.proofs.Common.{◌≡◌, ℕ, ◌+◌, ◌<◌, List, [], ◌∷◌, ◌++◌, length, take, get_or, refl, sym, ap, ◌∙◌, append-nil, map}
use Rattle.std.specs.List.{flat_map}
use Rattle.std.proofs.lemmas.List.{take_more}
use Rattle.std.proofs.lemmas.Grind.{flat_map-append}

pub flat_taken : {T A : Type 0} (f : T → List A) (xs : List T) (i : ℕ) (x : T) → i < length xs → x ≡ get_or xs i x → flat_map f (take (i + 1) xs) ≡ flat_map f (take i xs) ++ f x
flat_taken f xs i x h e =
    ap (flat_map f) (take_more xs i x h) ∙ flat_map-append f (take i xs) (get_or xs i x ∷ []) ∙ ap (λ ys. flat_map f (take i xs) ++ ys) (append-nil (f (get_or xs i x)) ∙ ap f (sym e))

pub flat_mapped : {T A B : Type 0} (g : T → B) (f : B → List A) (xs : List T) → flat_map f (map g xs) ≡ flat_map (λ x. f (g x)) xs
flat_mapped g f [] = refl
flat_mapped g f (x ∷ xs) = ap (λ ys. f (g x) ++ ys) (flat_mapped g f xs)
