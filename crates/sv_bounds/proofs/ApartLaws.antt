-- Where no rows lead from x to y: the variables near zero can all be lowered by one number.
use Rattle.std.proofs.Common.{◌≡◌, ◌⊎◌, inl, inr, ℕ, ◌+◌, ◌*◌, ◌^◌, ◌≤◌, Bool, true, false, List, All, ℤ, pos, negsuc, ◌+ℤ◌, ◌-ℤ◌, ◌<ℤ◌, ◌≤ℤ◌, int_lt, refl, arith}
use Rattle.std.proofs.lemmas.Int.{ints}
use Rattle.std.proofs.lemmas.List.Elements.{All-from_get_or}
use Rattle.sv_bounds.specs.declared.systems.Diff.{Diff}
use Rattle.sv_bounds.specs.declared.rounds.Cell.{Cell}
use Rattle.sv_bounds.specs.Differences.{no_row, row_at, Within, IsRow, Holds, Meets, IsSolvable, IsUnbounded}
use Rattle.sv_bounds.specs.Rounds.{value, Near, IsStable}
use Rattle.sv_bounds.proofs.ChainLaws.{row_in}

-- a variable whose value is near zero is lowered by k, another one by nothing
abbrev Split : ℤ → ℕ → ℤ → Type 0
Split z k d = ((z <ℤ pos (2 ^ 99)) × (d ≡ pos k)) ⊎ ((pos (2 ^ 99) ≤ℤ z) × (d ≡ pos 0))

abbrev drop_of : Bool → ℕ → ℤ
drop_of true k = pos k
drop_of false k = pos 0

by_test : (z : ℤ) (k : ℕ) (b : Bool) → int_lt z (pos (2 ^ 99)) ≡ b → Split z k (drop_of b k)
by_test z k true e = inl (omega (arith, ints, e), refl)
by_test z k false e = inr (omega (arith, ints, e), refl)

abbrev dropped : List Cell → ℕ → ℕ → ℤ
dropped cells k z = drop_of (int_lt (value cells z) (pos (2 ^ 99))) k

split_at : (cells : List Cell) (k z : ℕ) → Split (value cells z) k (dropped cells k z)
split_at cells k z = by_test (value cells z) k (int_lt (value cells z) (pos (2 ^ 99))) refl

over : (z : ℤ) → (k : ℕ) × (z <ℤ pos k)
over (pos n) = (n + 1, omega (arith, ints))
over (negsuc n) = (0, omega (arith, ints))

near_low : (r : ℕ) (z : ℤ) → r ≤ 65 → Near r z → z <ℤ pos (2 ^ 99) → z ≤ℤ pos (65 * 2 ^ 70)
near_low r z few (inl w) l = omega (arith, ints, few, w.high)
near_low r z few (inr w) l = absurd (omega (arith, ints, few, w.low, l))

-- a row is met as before, where a is at most b and the row's bound
row_kept : (a b m va vb p q c : ℤ) (k r : ℕ) → r ≤ 65 → Near r b → Within (2 ^ 70) m → a ≤ℤ (b +ℤ m) → (va -ℤ vb) ≤ℤ m → Split a k p → Split b k q
    → (((va -ℤ p) -ℤ c) -ℤ ((vb -ℤ q) -ℤ c)) ≤ℤ m
row_kept a b m va vb p q c k r few near w le met (inl s) (inl t) = omega (arith, ints, met, s.1, t.1)
row_kept a b m va vb p q c k r few near w le met (inl s) (inr t) = omega (arith, ints, met, s.1, t.1)
row_kept a b m va vb p q c k r few near w le met (inr s) (inl t) = let low : b ≤ℤ pos (65 * 2 ^ 70) = near_low r b few near t.0 in absurd (omega (arith, ints, low, le, w.high, s.0))
row_kept a b m va vb p q c k r few near w le met (inr s) (inr t) = omega (arith, ints, met, s.1, t.1)

near_drop : (z d : ℤ) (k : ℕ) → z ≤ℤ pos 0 → Split z k d → d ≡ pos k
near_drop z d k l (inl s) = s.1
near_drop z d k l (inr s) = absurd (omega (arith, ints, l, s.0))

far_drop : (z d : ℤ) (k : ℕ) → pos (2 ^ 99) ≤ℤ z → Split z k d → d ≡ pos 0
far_drop z d k l (inl s) = absurd (omega (arith, ints, l, s.0))
far_drop z d k l (inr s) = s.1

more_than : (t vx vy p q c : ℤ) (k : ℕ) → (t -ℤ (vx -ℤ vy)) <ℤ pos k → p ≡ pos 0 → q ≡ pos k → t <ℤ (((vx -ℤ p) -ℤ c) -ℤ ((vy -ℤ q) -ℤ c))
more_than t vx vy p q c k l e f = omega (arith, ints, l, e, f)

lowered : List Cell → ℕ → (ℕ → ℤ) → ℕ → ℤ
lowered cells k v z = (v z -ℤ dropped cells k z) -ℤ (v 0 -ℤ dropped cells k 0)

lowered_meets : (rows : List Diff) (vars r k : ℕ) (cells : List Cell) (v : ℕ → ℤ) → All (IsRow vars) rows → IsStable rows cells → r ≤ 65 → ((z : ℕ) → Near r (value cells z)) → Meets rows v
    → Meets rows (lowered cells k v)
unfolding lowered
lowered_meets rows vars r k cells v all stable few near m = record {
  zero_first = omega (arith, ints);
  each = All-from_get_or (Holds (lowered cells k v)) rows no_row (λ i l.
      let row : IsRow vars (row_at rows i) = row_in vars rows i all l in
      row_kept (value cells (row_at rows i).x) (value cells (row_at rows i).y) (row_at rows i).most (v (row_at rows i).x) (v (row_at rows i).y)
      (dropped cells k (row_at rows i).x) (dropped cells k (row_at rows i).y) (v 0 -ℤ dropped cells k 0) k r
      few (near (row_at rows i).y) row.most (stable i l) (m.each i no_row l) (split_at cells k (row_at rows i).x) (split_at cells k (row_at rows i).y));
}

pub unbounded : (rows : List Diff) (vars r : ℕ) (cells : List Cell) (x y : ℕ) → All (IsRow vars) rows → IsStable rows cells → r ≤ 65 → ((z : ℕ) → Near r (value cells z)) → IsSolvable rows
    → value cells y ≤ℤ pos 0 → pos (2 ^ 99) ≤ℤ value cells x → IsUnbounded rows x y
unfolding lowered
unbounded rows vars r cells x y all stable few near s low high t =
    let enough = over (t -ℤ (s.0 x -ℤ s.0 y)) in
    let k : ℕ = enough.0 in (
      lowered cells k s.0,
      lowered_meets rows vars r k cells s.0 all stable few near s.1,
      more_than t (s.0 x) (s.0 y) (dropped cells k x) (dropped cells k y) (s.0 0 -ℤ dropped cells k 0) k enough.1
          (far_drop (value cells x) (dropped cells k x) k high (split_at cells k x))
          (near_drop (value cells y) (dropped cells k y) k low (split_at cells k y)),
    )
