-- Cuts as operations carry them.
use Rattle.std.proofs.Common.{◌≡◌, ◌⊎◌, inl, inr, ℕ, zero, suc, ◌<◌, ◌≤◌, ◌&&◌, Bool, true, false, length, get_or, refl, sym, ◌∙◌, arith}
use Rattle.std.specs.Prelude.{map}
use Rattle.std.proofs.lemmas.Grind.{same_number_lists}
use Rattle.sv_value.specs.declared.cuts.Cut.{Cut as CodeCut}
use Rattle.sv_value.specs.Cuts.{counts}
use Rattle.sv_effect.specs.Cut.{Cut, all_sites, as_deps}

pub order : (a b : ℕ) → (a < b) ⊎ (b ≤ a)
order zero zero = inr (omega arith)
order zero (suc b) = inl (omega arith)
order (suc a) zero = inr (omega arith)
order (suc a) (suc b) = up (order a b)
  where
    up : (a < b) ⊎ (b ≤ a) → (suc a < suc b) ⊎ (suc b ≤ suc a)
    up (inl l) = inl (omega (arith, l))
    up (inr l) = inr (omega (arith, l))

pub counts_as : (cut : Cut) → ((o : ℕ) → 8 < o → cut o ≡ 0) → (o : ℕ) → counts (as_deps cut) o ≡ cut o
counts_as cut none zero = refl
counts_as cut none (suc zero) = refl
counts_as cut none (suc (suc zero)) = refl
counts_as cut none (suc (suc (suc zero))) = refl
counts_as cut none (suc (suc (suc (suc zero)))) = refl
counts_as cut none (suc (suc (suc (suc (suc zero))))) = refl
counts_as cut none (suc (suc (suc (suc (suc (suc zero)))))) = refl
counts_as cut none (suc (suc (suc (suc (suc (suc (suc zero))))))) = refl
counts_as cut none (suc (suc (suc (suc (suc (suc (suc (suc zero)))))))) = refl
counts_as cut none (suc (suc (suc (suc (suc (suc (suc (suc (suc n))))))))) = sym (none (suc (suc (suc (suc (suc (suc (suc (suc (suc n))))))))) (omega arith))

pub both_true : (a b : Bool) → (a && b) ≡ true → (a ≡ true) × (b ≡ true)
both_true true true e = (refl, refl)
both_true true false e = absurd cc
both_true false b e = absurd cc

-- a cut as operations carry it, by its counts
site_at : (f : Cut) (k : ℕ) → k < 8 → get_or (map f all_sites) k 0 ≡ f (suc k)
site_at f zero lt = refl
site_at f (suc zero) lt = refl
site_at f (suc (suc zero)) lt = refl
site_at f (suc (suc (suc zero))) lt = refl
site_at f (suc (suc (suc (suc zero)))) lt = refl
site_at f (suc (suc (suc (suc (suc zero))))) lt = refl
site_at f (suc (suc (suc (suc (suc (suc zero)))))) lt = refl
site_at f (suc (suc (suc (suc (suc (suc (suc zero))))))) lt = refl
site_at f (suc (suc (suc (suc (suc (suc (suc (suc n)))))))) lt = absurd (omega (arith, lt))

pub deps_are : (cut : CodeCut) (f : Cut) → length cut.blue ≡ 8 → ((o : ℕ) → counts cut o ≡ f o) → cut ≡ as_deps f
deps_are cut f long each = λ i. record { blue = blue i; reds = each 0 i }
  where
    blue : cut.blue ≡ map f all_sites
    blue = same_number_lists cut.blue (map f all_sites) long (λ k lt. each (suc k) ∙ sym (site_at f k (omega (arith, lt, long))))
