-- Drawing one step more.
use Rattle.std.proofs.Common.{◌≡◌, ℕ, suc, ◌+◌, ◌-◌, ◌<◌, ◌≤◌, List, [], ◌∷◌, ◌++◌, refl, sym, subst, ap, ◌∙◌, arith}
use Rattle.std.proofs.lemmas.List.{append-nil, append_assoc}
use Rattle.rand_pcg.specs.Lcg.{Lcg}
use Rattle.sv_workload.specs.declared.parts.Step.{Step}
use Rattle.sv_workload.specs.Made.{step_drawn, steps_drawn}

-- one step more
pub more_drawn : (all before : List Step) (n i : ℕ) (g next : Lcg) (step : Step) → before ++ steps_drawn (n - i) g ≡ all → i < n → (step, next) ≡ step_drawn g
    → (before ++ step ∷ []) ++ steps_drawn (n - (i + 1)) next ≡ all
more_drawn all before n i g next step so_far lt is =
    append_assoc before (step ∷ []) (steps_drawn (n - (i + 1)) next)
    ∙ ap (λ (d : Step × Lcg). before ++ d.0 ∷ steps_drawn (n - (i + 1)) d.1) is
    ∙ ap (λ k. before ++ steps_drawn k g) one_left
    ∙ so_far
  where
    one_left : suc (n - (i + 1)) ≡ n - i
    one_left = omega (arith, lt)

pub none_drawn : (all before : List Step) (n i : ℕ) (g : Lcg) → before ++ steps_drawn (n - i) g ≡ all → n ≤ i → before ≡ all
none_drawn all before n i g so_far le = sym (ap (λ k. before ++ steps_drawn k g) none_left ∙ append-nil before) ∙ so_far
  where
    none_left : n - i ≡ 0
    none_left = omega (arith, le)
