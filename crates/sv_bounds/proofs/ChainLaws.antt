-- Chains of rows: what they bound, and chains that grow at their end.
use Rattle.std.proofs.Common.{◌≡◌, ℕ, ◌<◌, List, [], ◌∷◌, ◌++◌, length, All, ℤ, pos, ◌+ℤ◌, ◌-ℤ◌, ◌≤ℤ◌, refl, sym, ap, ◌∙◌, arith}
use Rattle.std.proofs.lemmas.Int.{ints}
use Rattle.sv_bounds.specs.declared.systems.Diff.{Diff}
use Rattle.sv_bounds.specs.Differences.{row_at, IsRow, Holds, Meets, IsSolvable, IsChain, sum_of, IsCycle, IsBound}

pub row_in : (vars : ℕ) (rows : List Diff) (i : ℕ) → All (IsRow vars) rows → i < length rows → IsRow vars (row_at rows i)
row_in vars rows i all l = all i _ l

-- x - y is at most the sum of the rows that lead from x to y
pub chain_bounds : (rows : List Diff) (v : ℕ → ℤ) (chain : List ℕ) (x y : ℕ) → All (Holds v) rows → IsChain rows x chain y → (v x -ℤ v y) ≤ℤ sum_of rows chain
chain_bounds rows v [] x y all h = let e : v x ≡ v y = ap v h in omega (arith, ints, e)
chain_bounds rows v (i ∷ chain) x y all h =
    let here : Holds v (row_at rows i) = all i _ h.0 in
    let from : v (row_at rows i).x ≡ v x = ap v h.1 in
    let rest : (v (row_at rows i).y -ℤ v y) ≤ℤ sum_of rows chain = chain_bounds rows v chain (row_at rows i).y y all h.2 in
    omega (arith, ints, here, from, rest)

pub chain_is_bound : (rows : List Diff) (chain : List ℕ) (x y : ℕ) (most : ℤ) → IsChain rows x chain y → sum_of rows chain ≡ most → IsBound rows x y most
chain_is_bound rows chain x y most h e v m = let b : (v x -ℤ v y) ≤ℤ sum_of rows chain = chain_bounds rows v chain x y m.each h in omega (arith, ints, b, e)

-- no assignment meets rows that have a cycle
pub no_cycle : (rows : List Diff) (v : ℕ → ℤ) (chain : List ℕ) {Q : Type 0} → Meets rows v → IsCycle rows chain → Q
no_cycle rows v chain m c =
    let b : (v c.at -ℤ v c.at) ≤ℤ sum_of rows chain = chain_bounds rows v chain c.at c.at m.each c.closed in
    absurd (omega (arith, ints, b, c.below))

pub closed_sum : (rows : List Diff) (chain : List ℕ) (x : ℕ) → IsSolvable rows → IsChain rows x chain x → pos 0 ≤ℤ sum_of rows chain
closed_sum rows chain x s h =
    let b : (s.0 x -ℤ s.0 x) ≤ℤ sum_of rows chain = chain_bounds rows s.0 chain x x s.1.each h in
    omega (arith, ints, b)

pub chain_push : (rows : List Diff) (chain : List ℕ) (x y i : ℕ) → IsChain rows x chain y → i < length rows → (row_at rows i).x ≡ y → IsChain rows x (chain ++ i ∷ []) (row_at rows i).y
chain_push rows [] x y i h l e = (l, e ∙ sym h, refl)
chain_push rows (j ∷ chain) x y i h l e = (h.0, h.1, chain_push rows chain (row_at rows j).y y i h.2 l e)

pub sum_push : (rows : List Diff) (chain : List ℕ) (i : ℕ) → sum_of rows (chain ++ i ∷ []) ≡ (sum_of rows chain +ℤ (row_at rows i).most)
sum_push rows [] i = omega (arith, ints)
sum_push rows (j ∷ chain) i = let ih : sum_of rows (chain ++ i ∷ []) ≡ (sum_of rows chain +ℤ (row_at rows i).most) = sum_push rows chain i in omega (arith, ints, ih)
