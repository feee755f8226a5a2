-- Round after round: values only fall, what falls was lowered by a row, and no value goes far from its start.
use Rattle.std.proofs.Common.{◌≡◌, ◌⊎◌, inl, inr, ℕ, zero, suc, ◌+◌, ◌-◌, ◌^◌, ◌<◌, ◌≤◌, List, length, All, ℤ, pos, ◌+ℤ◌, ◌≤ℤ◌, refl, sym, ap, subst, arith}
use Rattle.std.proofs.lemmas.Int.{ints}
use Rattle.std.proofs.lemmas.Bool.{cases_lt}
use Rattle.std.proofs.lemmas.List.{get_or_past}
use Rattle.sv_bounds.specs.declared.systems.Diff.{Diff}
use Rattle.sv_bounds.specs.declared.rounds.Cell.{Cell}
use Rattle.sv_bounds.specs.Differences.{row_at, Within, IsRow}
use Rattle.sv_bounds.specs.Rounds.{no_cell, cell_of, value, IsLowered, IsNext, Fell, round_at, Near, AreRounds}
use Rattle.sv_bounds.proofs.ChainLaws.{row_in}
use Rattle.sv_bounds.proofs.RoundLaws.{low}

pub one_step : (rows : List Diff) (vars : ℕ) (rounds : List (List Cell)) → AreRounds rows vars rounds → (r z : ℕ) → r + 1 < length rounds → z < vars
    → value (round_at rounds (r + 1)) z ≤ℤ value (round_at rounds r) z
one_step rows vars rounds are r z l h =
    let long : length (round_at rounds r) ≡ vars = are.long r (omega (arith, l)) in
    low rows (length rows) (round_at rounds r) (round_at rounds (r + 1)) (are.next r l) z (omega (arith, long, h))

falls_by : (rows : List Diff) (vars : ℕ) (rounds : List (List Cell)) → AreRounds rows vars rounds → (n k j z : ℕ) → j ≡ k + n → j < length rounds → z < vars
    → value (round_at rounds j) z ≤ℤ value (round_at rounds k) z
falls_by rows vars rounds are zero k j z e l h =
    let s : value (round_at rounds j) z ≡ value (round_at rounds k) z = ap (λ r. value (round_at rounds r) z) (omega (arith, e)) in
    omega (arith, ints, s)
falls_by rows vars rounds are (suc n) k j z e l h =
    let ih : value (round_at rounds (k + n)) z ≤ℤ value (round_at rounds k) z = falls_by rows vars rounds are n k (k + n) z refl (omega (arith, e, l)) h in
    let step : value (round_at rounds (k + n + 1)) z ≤ℤ value (round_at rounds (k + n)) z = one_step rows vars rounds are (k + n) z (omega (arith, e, l)) h in
    let s : value (round_at rounds j) z ≡ value (round_at rounds (k + n + 1)) z = ap (λ r. value (round_at rounds r) z) (omega (arith, e)) in
    omega (arith, ints, ih, step, s)

pub falls : (rows : List Diff) (vars : ℕ) (rounds : List (List Cell)) → AreRounds rows vars rounds → (k j z : ℕ) → k ≤ j → j < length rounds → z < vars
    → value (round_at rounds j) z ≤ℤ value (round_at rounds k) z
falls rows vars rounds are k j z le l h = falls_by rows vars rounds are (j - k) k j z (omega (arith, le)) l h

-- the cell of a variable that fell names the row that lowered it
pub lowered_at : (rows : List Diff) (vars : ℕ) (rounds : List (List Cell)) → AreRounds rows vars rounds → (r x : ℕ) → r + 1 < length rounds → x < vars
    → Fell (round_at rounds r) (round_at rounds (r + 1)) x → IsLowered rows (round_at rounds r) x (cell_of (round_at rounds (r + 1)) x)
lowered_at rows vars rounds are r x l h fell =
    let long : length (round_at rounds r) ≡ vars = are.long r (omega (arith, l)) in
    pick ((are.next r l).cells x (omega (arith, long, h)))
  where
    pick : (cell_of (round_at rounds (r + 1)) x ≡ cell_of (round_at rounds r) x) ⊎ IsLowered rows (round_at rounds r) x (cell_of (round_at rounds (r + 1)) x)
        → IsLowered rows (round_at rounds r) x (cell_of (round_at rounds (r + 1)) x)
    pick (inl e) = let s : value (round_at rounds (r + 1)) x ≡ value (round_at rounds r) x = ap (λ (k : Cell). k.value) e in absurd (omega (arith, ints, s, fell))
    pick (inr h) = h

near_more : (r : ℕ) (z : ℤ) → Near r z → Near (r + 1) z
near_more r z (inl w) = inl (record { low = omega (arith, ints, w.low); high = omega (arith, ints, w.high) })
near_more r z (inr w) = inr (record { low = omega (arith, ints, w.low); high = omega (arith, ints, w.high) })

near_by : (r : ℕ) (a b m : ℤ) → Within (2 ^ 70) m → a ≡ (b +ℤ m) → Near r b → Near (r + 1) a
near_by r a b m w e (inl n) = inl (record { low = omega (arith, ints, w.low, n.low, e); high = omega (arith, ints, w.high, n.high, e) })
near_by r a b m w e (inr n) = inr (record { low = omega (arith, ints, w.low, n.low, e); high = omega (arith, ints, w.high, n.high, e) })

near_next : (rows : List Diff) (vars : ℕ) (old new : List Cell) (r : ℕ) → length old ≡ vars → All (IsRow vars) rows → ((x : ℕ) → Near r (value old x)) → IsNext rows (length rows) old new
    → (x : ℕ) → x < vars → Near (r + 1) (value new x)
near_next rows vars old new r long all near next x l = pick (next.cells x (omega (arith, long, l)))
  where
    pick : (cell_of new x ≡ cell_of old x) ⊎ IsLowered rows old x (cell_of new x) → Near (r + 1) (value new x)
    pick (inl e) = let s : value new x ≡ value old x = ap (λ (k : Cell). k.value) e in subst (Near (r + 1)) (sym s) (near_more r (value old x) (near x))
    pick (inr h) =
        near_by r (value new x) (value old (row_at rows (cell_of new x).by).y) (row_at rows (cell_of new x).by).most
        (row_in vars rows (cell_of new x).by all h.stands).most h.is (near (row_at rows (cell_of new x).by).y)

near_zero : (r : ℕ) (z : ℤ) → z ≡ pos 0 → Near r z
near_zero r z e = inl (record { low = omega (arith, ints, e); high = omega (arith, ints, e) })

near_all : (vars r : ℕ) (cells : List Cell) → length cells ≡ vars → ((x : ℕ) → x < vars → Near r (value cells x)) → (x : ℕ) → Near r (value cells x)
near_all vars r cells long near x = pick (cases_lt x vars)
  where
    pick : (x < vars) ⊎ (vars ≤ x) → Near r (value cells x)
    pick (inl l) = near x l
    pick (inr l) = near_zero r (value cells x) (ap (λ (k : Cell). k.value) (get_or_past cells x no_cell (omega (arith, long, l))))

near_start : (z : ℤ) → (z ≡ pos 0) ⊎ (z ≡ pos (2 ^ 100)) → Near 0 z
near_start z (inl e) = near_zero 0 z e
near_start z (inr e) = inr (record { low = omega (arith, ints, e); high = omega (arith, ints, e) })

pub near_at : (rows : List Diff) (vars : ℕ) (rounds : List (List Cell)) → All (IsRow vars) rows → AreRounds rows vars rounds → (r : ℕ) → r < length rounds → (x : ℕ) → Near r (value (round_at rounds r) x)
near_at rows vars rounds all are zero l = λ x. near_start (value (round_at rounds 0) x) (are.start x)
near_at rows vars rounds all are (suc r) l =
    let more : r + 1 < length rounds = omega (arith, l) in
    let long : length (round_at rounds r) ≡ vars = are.long r (omega (arith, l)) in
    let next : IsNext rows (length rows) (round_at rounds r) (round_at rounds (r + 1)) = are.next r more in
    let near : (x : ℕ) → Near (r + 1) (value (round_at rounds (r + 1)) x) =
    near_all vars (r + 1) (round_at rounds (r + 1)) (are.long (r + 1) more)
    (near_next rows vars (round_at rounds r) (round_at rounds (r + 1)) r long all (near_at rows vars rounds all are r (omega (arith, l))) next) in
    let one : r + 1 ≡ suc r = omega arith in
    subst (λ k. (x : ℕ) → Near k (value (round_at rounds k) x)) one near

pub near_within : (r : ℕ) (z : ℤ) → r ≤ 65 → Near r z → Within (2 ^ 101) z
near_within r z few (inl w) = record { low = omega (arith, ints, few, w.low); high = omega (arith, ints, few, w.high) }
near_within r z few (inr w) = record { low = omega (arith, ints, few, w.low); high = omega (arith, ints, few, w.high) }
