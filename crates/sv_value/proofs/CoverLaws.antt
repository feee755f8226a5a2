-- Cuts by counts.
use Rattle.std.proofs.Common.{◌≡◌, ◌⊎◌, inl, inr, ℕ, zero, suc, ◌<◌, ◌≤◌, ◌+◌, List, [], ◌∷◌, length, get_or, refl, sym, subst, arith}
use Rattle.std.proofs.lemmas.Bool.{cases_eq}
use Rattle.sv_value.specs.declared.cuts.Cut.{Cut}
use Rattle.sv_value.specs.Cuts.{counts, Covers}
use Rattle.sv_value.proofs.Below.{Below}

order : (a b : ℕ) → (a < b) ⊎ (b ≤ a)
order zero zero = inr (omega arith)
order zero (suc b) = inl (omega arith)
order (suc a) zero = inr (omega arith)
order (suc a) (suc b) = up (order a b)
  where
    up : (a < b) ⊎ (b ≤ a) → (suc a < suc b) ⊎ (suc b ≤ suc a)
    up (inl l) = inl (omega (arith, l))
    up (inr l) = inr (omega (arith, l))

past : (xs : List ℕ) (k : ℕ) → length xs ≤ k → get_or xs k 0 ≡ 0
past [] k le = refl
past (x ∷ xs) zero le = absurd (omega (arith, le))
past (x ∷ xs) (suc k) le = past xs k (omega (arith, le))

zero_least : (n : ℕ) → 0 ≤ n
zero_least n = omega arith

pub below_all : (a b : Cut) → length b.blue ≡ 8 → b.reds ≤ a.reds → Below b.blue a.blue 8 → Covers (counts a) (counts b)
below_all a b long reds below zero = reds
below_all a b long reds below (suc k) = from (order k 8)
  where
    from : (k < 8) ⊎ (8 ≤ k) → get_or b.blue k 0 ≤ get_or a.blue k 0
    from (inl lt) = below k lt
    from (inr le) = rw (past b.blue k (omega (arith, long, le))) (zero_least (get_or a.blue k 0))

pub below_more : (xs ys : List ℕ) (n : ℕ) → Below xs ys n → get_or xs n 0 ≤ get_or ys n 0 → Below xs ys (n + 1)
below_more xs ys n below le k lt = from (cases_eq k n)
  where
    from : (k ≡ n) ⊎ (k ≡ n → ⊥) → get_or xs k 0 ≤ get_or ys k 0
    from (inl is) = subst (λ j. get_or xs j 0 ≤ get_or ys j 0) (sym is) le
    from (inr apart) = below k (omega (arith, lt, apart))
