-- The rows that lead from a variable of the last round down to one of the first.
use Rattle.std.proofs.Common.{◌≡◌, ℕ, zero, suc, ◌+◌, ◌<◌, List, [], ◌∷◌, ◌++◌, length, All, ◌+ℤ◌, ◌≤ℤ◌, refl, sym, ap, subst, ◌∙◌, arith}
use Rattle.std.proofs.lemmas.Int.{ints, by_lt_z}
use Rattle.sv_bounds.specs.declared.systems.Diff.{Diff}
use Rattle.sv_bounds.specs.declared.rounds.Cell.{Cell}
use Rattle.sv_bounds.specs.Differences.{row_at, IsRow, IsChain, sum_of}
use Rattle.sv_bounds.specs.Rounds.{cell_of, value, asked, IsLowered, round_at, AreRounds}
use Rattle.sv_bounds.specs.Walks.{IsDescent, Descends}
use Rattle.sv_bounds.proofs.ChainLaws.{row_in, chain_push, sum_push}
use Rattle.sv_bounds.proofs.FallLaws.{one_step, lowered_at}

pub descent_start : (rows : List Diff) (vars : ℕ) (rounds : List (List Cell)) (top x : ℕ) → x < vars → IsDescent rows vars rounds top x top [] x
descent_start rows vars rounds top x h = record {
  inside = h;
  below = omega arith;
  leads = refl;
  sum = omega (arith, ints);
  near = record { low = omega (arith, ints); high = omega (arith, ints) };
}

-- the variable did not fall: it is where it was a round before
pub descent_stay : (rows : List Diff) (vars : ℕ) (rounds : List (List Cell)) (top x r : ℕ) (chain : List ℕ) (z : ℕ) → AreRounds rows vars rounds → top < length rounds
    → IsDescent rows vars rounds top x (r + 1) chain z → value (round_at rounds r) z ≤ℤ value (round_at rounds (r + 1)) z → IsDescent rows vars rounds top x r chain z
descent_stay rows vars rounds top x r chain z are l d stays =
    let down : value (round_at rounds (r + 1)) z ≤ℤ value (round_at rounds r) z = one_step rows vars rounds are r z (omega (arith, l, d.below)) d.inside in
    record {
      inside = d.inside;
      below = omega (arith, d.below);
      leads = d.leads;
      sum = omega (arith, ints, d.sum, down, stays);
      near = record { low = omega (arith, ints, d.below, d.near.low); high = omega (arith, ints, d.below, d.near.high) };
    }

-- the variable fell: on by the row that lowered it
pub descent_row : (rows : List Diff) (vars : ℕ) (rounds : List (List Cell)) (top x r : ℕ) (chain : List ℕ) (z : ℕ) → All (IsRow vars) rows
    → IsDescent rows vars rounds top x (r + 1) chain z → IsLowered rows (round_at rounds r) z (cell_of (round_at rounds (r + 1)) z)
    → (i : ℕ) (longer : List ℕ) → i ≡ (cell_of (round_at rounds (r + 1)) z).by → longer ≡ chain ++ i ∷ []
    → IsDescent rows vars rounds top x r longer (row_at rows i).y
descent_row rows vars rounds top x r chain z all d h i longer e more =
    let stands : i < length rows = omega (arith, e, h.stands) in
    let row : IsRow vars (row_at rows i) = row_in vars rows i all stands in
    let is : value (round_at rounds (r + 1)) z ≡ asked rows i (round_at rounds r) = h.is ∙ ap (λ j. asked rows j (round_at rounds r)) (sym e) in
    let sum : sum_of rows longer ≡ (sum_of rows chain +ℤ (row_at rows i).most) = ap (sum_of rows) more ∙ sum_push rows chain i in
    record {
      inside = row.y;
      below = omega (arith, d.below);
      leads = subst (λ c. IsChain rows x c (row_at rows i).y) (sym more) (chain_push rows chain x z i d.leads stands (ap (λ j. (row_at rows j).x) e ∙ h.from));
      sum = omega (arith, ints, sum, is, d.sum);
      near = record {
        low = omega (arith, ints, sum, d.below, d.near.low, row.most.low);
        high = omega (arith, ints, sum, d.below, d.near.high, row.most.high);
      };
    }

ends_by : (rows : List Diff) (vars : ℕ) (rounds : List (List Cell)) (top x : ℕ) → All (IsRow vars) rows → AreRounds rows vars rounds → top < length rounds → (r : ℕ) (chain : List ℕ) (z : ℕ)
    → IsDescent rows vars rounds top x r chain z → (c : List ℕ) × Descends rows vars rounds top x c
ends_by rows vars rounds top x all are l zero chain z d = (chain, record { end = z; descent = d })
ends_by rows vars rounds top x all are l (suc r) chain z d =
    let one : suc r ≡ r + 1 = omega arith in
    let here : IsDescent rows vars rounds top x (r + 1) chain z = subst (λ k. IsDescent rows vars rounds top x k chain z) one d in
    by_lt_z (value (round_at rounds (r + 1)) z) (value (round_at rounds r) z)
    (λ fell.
    let low : IsLowered rows (round_at rounds r) z (cell_of (round_at rounds (r + 1)) z) = lowered_at rows vars rounds are r z (omega (arith, l, here.below)) here.inside fell in
    ends_by rows vars rounds top x all are l r (chain ++ (cell_of (round_at rounds (r + 1)) z).by ∷ []) (row_at rows (cell_of (round_at rounds (r + 1)) z).by).y
    (descent_row rows vars rounds top x r chain z all here low (cell_of (round_at rounds (r + 1)) z).by (chain ++ (cell_of (round_at rounds (r + 1)) z).by ∷ []) refl refl))
    (λ stays. ends_by rows vars rounds top x all are l r chain z (descent_stay rows vars rounds top x r chain z are l here stays))

-- there are rows that lead down from each variable
pub ends : (rows : List Diff) (vars : ℕ) (rounds : List (List Cell)) (top x : ℕ) → All (IsRow vars) rows → AreRounds rows vars rounds → top < length rounds → x < vars
    → (c : List ℕ) × Descends rows vars rounds top x c
ends rows vars rounds top x all are l h = ends_by rows vars rounds top x all are l top [] x (descent_start rows vars rounds top x h)
