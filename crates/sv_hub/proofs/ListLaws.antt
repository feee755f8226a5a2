-- What holds of the elements of a list after one is set, or one more stands behind them.
use Rattle.std.proofs.Common.{◌≡◌, ◌≢◌, ⊎_elim, ℕ, zero, suc, List, [], ◌∷◌, ◌++◌, set, refl, sym, subst}
use mathlib.Core.Option.{some, some-injective, some-ne-none}
use lib.ListN.{get_elem?}
use Rattle.atomic_table.proofs.Lists.{at_set, at_snoc}

module _ {W : Type 0} where
  -- where there was an element, the one that is set stands
  pub set_there : (l : List W) (i : ℕ) (a b : W) → get_elem? l i ≡ some a → get_elem? (set l i b) i ≡ some b
  set_there [] i a b e = absurd (some-ne-none a (sym e))
  set_there (x ∷ xs) zero a b e = refl
  set_there (x ∷ xs) (suc i) a b e = set_there xs i a b e

module _ {W : Type 0} (P : ℕ → W → Type 0) where
  pub each_one : (w : W) → P 0 w → (j : ℕ) (u : W) → get_elem? (w ∷ []) j ≡ some u → P j u
  each_one w mine zero u e = subst (P zero) (some-injective _ _ e) mine
  each_one w mine (suc j) u e = absurd (some-ne-none u (sym e))

  pub each_set : (l : List W) (i : ℕ) (w : W) → ((j : ℕ) (u : W) → j ≢ i → get_elem? l j ≡ some u → P j u) → P i w → (j : ℕ) (u : W) → get_elem? (set l i w) j ≡ some u → P j u
  each_set l i w others mine j u e =
      ⊎_elim
      (λ (here : (j ≡ i) × (w ≡ u)). subst (λ (at : ℕ × W). P at.0 at.1) (λ k. (sym here.0 k, here.1 k)) mine)
      (λ (there : (j ≢ i) × (get_elem? l j ≡ some u)). others j u there.0 there.1)
      (at_set l i j w u e)

  pub each_more : (l : List W) (w : W) → ((j : ℕ) (u : W) → get_elem? l j ≡ some u → P j u) → ((j : ℕ) → P j w) → (j : ℕ) (u : W) → get_elem? (l ++ w ∷ []) j ≡ some u → P j u
  each_more l w others mine j u e = ⊎_elim (λ (there : get_elem? l j ≡ some u). others j u there) (λ (last : w ≡ u). subst (P j) last (mine j)) (at_snoc l w u j e)
