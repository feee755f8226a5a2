-- The first item of a slice, and the later ones.
use Rattle.std.proofs.Common.{◌≡◌, ℕ, ◌<◌, ◌≤◌, ◌-◌, ℤ, pos, List, [], ◌∷◌, length, take, drop, slice_index_or, Result, Ok, Err, IfOk, IfErr, refl, sym, ap, subst, ◌∙◌, arith}
use Rattle.std.proofs.Math.Seq.{take-length}

abbrev pub first : List (ℕ × ℤ) → ℕ × ℤ
first ts = slice_index_or ts 0 (0, pos 0)

abbrev pub rest : List (ℕ × ℤ) → List (ℕ × ℤ)
rest ts = take (length ts - 1) (drop 1 ts)

rest_is : (t : ℕ × ℤ) (ts : List (ℕ × ℤ)) → rest (t ∷ ts) ≡ ts
rest_is t ts =
    let e : length (t ∷ ts) - 1 ≡ length ts = omega arith in
    ap (λ n. take n ts) e ∙ take-length ts

-- what holds of a first item and the later ones holds of a slice that has some
pub by_first : (P : List (ℕ × ℤ) → ℕ × ℤ → List (ℕ × ℤ) → Type 0) → ((t : ℕ × ℤ) (ts : List (ℕ × ℤ)) → P (t ∷ ts) t ts) → (ts : List (ℕ × ℤ)) → 1 ≤ length ts → P ts (first ts) (rest ts)
by_first P each [] h = absurd (omega (arith, h))
by_first P each (t ∷ ts) h = subst (λ l. P (t ∷ ts) t l) (sym (rest_is t ts)) (each t ts)

pub on_ok : {A E : Type 0} (r : Result A E) (P Q : A → Type 0) → ((x : A) → P x → Q x) → IfOk r P → IfOk r Q
on_ok (Ok x) P Q f h = f x h
on_ok (Err e) P Q f h = h

pub on_err : {A E : Type 0} (r : Result A E) (P Q : E → Type 0) → ((e : E) → P e → Q e) → IfErr r P → IfErr r Q
on_err (Ok x) P Q f h = h
on_err (Err e) P Q f h = f e h

-- the same of two slices
pub by_firsts : (P : List (ℕ × ℤ) → ℕ × ℤ → List (ℕ × ℤ) → List (ℕ × ℤ) → ℕ × ℤ → List (ℕ × ℤ) → Type 0)
    → ((x : ℕ × ℤ) (xs : List (ℕ × ℤ)) (y : ℕ × ℤ) (ys : List (ℕ × ℤ)) → P (x ∷ xs) x xs (y ∷ ys) y ys)
    → (a b : List (ℕ × ℤ)) → 1 ≤ length a → 1 ≤ length b → P a (first a) (rest a) b (first b) (rest b)
by_firsts P each a b h k = by_first (λ l x xs. P l x xs b (first b) (rest b)) (λ x xs. by_first (λ l y ys. P (x ∷ xs) x xs l y ys) (each x xs) b k) a h

pub no_items : (ts : List (ℕ × ℤ)) → length ts < 1 → ts ≡ []
no_items [] h = refl
no_items (t ∷ ts) h = absurd (omega (arith, h))
