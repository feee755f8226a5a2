-- Rounds that go on, and what they are when none falls.
use Rattle.std.proofs.Common.{◌≡◌, ◌⊎◌, inl, inr, ℕ, zero, suc, ◌+◌, ◌-◌, ◌^◌, ◌<◌, ◌≤◌, List, [], ◌∷◌, ◌++◌, length, All, ◌≤ℤ◌, refl, sym, ap, subst, ◌∙◌, arith}
use Rattle.std.specs.Global.{Vec}
use Rattle.std.proofs.lemmas.Int.{ints}
use Rattle.std.proofs.lemmas.Bool.{cases_lt}
use Rattle.std.proofs.lemmas.List.{get_or_append_left, get_or_push, length_push, length-map, map_push}
use Rattle.sv_bounds.specs.declared.systems.Diff.{Diff}
use Rattle.sv_bounds.specs.declared.rounds.Cell.{Cell}
use Rattle.sv_bounds.specs.Differences.{row_at, Within, IsRow}
use Rattle.sv_bounds.specs.Rounds.{value, asked, IsNext, Fell, Stays, lists, round_at, IsStart, AreRounds}
use Rattle.sv_bounds.specs.Settling.{last_of, IsStableFrom, IsSettling}
use Rattle.sv_bounds.proofs.ChainLaws.{row_in}
use Rattle.sv_bounds.proofs.FallLaws.{near_at, near_within}

pub lists_push : (rounds : List (Vec Cell)) (new : Vec Cell) → lists (rounds ++ new ∷ []) ≡ lists rounds ++ new.items ∷ []
lists_push rounds new = map_push (λ (round : Vec Cell). round.items) rounds new

pub lists_length : (rounds : List (Vec Cell)) → length (lists rounds) ≡ length rounds
lists_length rounds = length-map rounds (λ (round : Vec Cell). round.items)

pub round_old : (rounds : List (List Cell)) (new : List Cell) (r : ℕ) → r < length rounds → round_at (rounds ++ new ∷ []) r ≡ round_at rounds r
round_old rounds new r l = get_or_append_left rounds (new ∷ []) [] r l

pub round_new : (rounds : List (List Cell)) (new : List Cell) (r : ℕ) → r ≡ length rounds → round_at (rounds ++ new ∷ []) r ≡ new
round_new rounds new r e = get_or_push rounds new [] r (sym e)

one_long : (start : List Cell) (r : ℕ) → r < 1 → length (round_at (start ∷ []) r) ≡ length start
one_long start zero l = refl
one_long start (suc r) l = absurd (omega (arith, l))

pub rounds_start : (rows : List Diff) (start : List Cell) → IsStart start → AreRounds rows (length start) (start ∷ [])
rounds_start rows start is = record { long = one_long start; next = λ r l. absurd (omega (arith, l)); start = is }

next_same : (rows : List Diff) (n : ℕ) (old old' new new' : List Cell) → old' ≡ old → new' ≡ new → IsNext rows n old new → IsNext rows n old' new'
next_same rows n old old' new new' e f h = subst (λ a. IsNext rows n a new') (sym e) (subst (λ b. IsNext rows n old b) (sym f) h)

pub rounds_push : (rows : List Diff) (vars : ℕ) (rounds : List (List Cell)) (new : List Cell) → AreRounds rows vars rounds → 1 ≤ length rounds
    → IsNext rows (length rows) (last_of rounds) new → AreRounds rows vars (rounds ++ new ∷ [])
rounds_push rows vars rounds new are some next = record {
  long = λ r l. long_at r (cases_lt r (length rounds)) (omega (arith, l, length_push rounds new));
  next = λ r l. next_at r (cases_lt (r + 1) (length rounds)) (omega (arith, l, length_push rounds new));
  start = subst IsStart (sym (round_old rounds new 0 (omega (arith, some)))) are.start;
}
  where
    long_at : (r : ℕ) → (r < length rounds) ⊎ (length rounds ≤ r) → r ≤ length rounds → length (round_at (rounds ++ new ∷ []) r) ≡ vars
    long_at r (inl l) le = ap length (round_old rounds new r l) ∙ are.long r l
    long_at r (inr l) le = ap length (round_new rounds new r (omega (arith, l, le))) ∙ next.long ∙ are.long (length rounds - 1) (omega (arith, some))

    next_at : (r : ℕ) → (r + 1 < length rounds) ⊎ (length rounds ≤ r + 1) → r + 1 ≤ length rounds
        → IsNext rows (length rows) (round_at (rounds ++ new ∷ []) r) (round_at (rounds ++ new ∷ []) (r + 1))
    next_at r (inl l) le = next_same rows (length rows) _ _ _ _ (round_old rounds new r (omega (arith, l))) (round_old rounds new (r + 1) l) (are.next r l)
    next_at r (inr l) le =
        let last : r ≡ length rounds - 1 = omega (arith, l, le, some) in
        next_same rows (length rows) _ _ _ _ (round_old rounds new r (omega (arith, last, some)) ∙ ap (round_at rounds) last) (round_new rounds new (r + 1) (omega (arith, l, le))) next

pub settling_start : (rows : List Diff) (start : List Cell) → IsStart start → 1 ≤ length start → IsSettling rows start (start ∷ []) 0 0
settling_start rows start is some = record {
  are = rounds_start rows start is;
  first = refl;
  count = refl;
  inside = omega (arith, some);
  fell = λ k e. absurd (omega (arith, e));
}

-- one more round, in which z fell
pub settling_more : (rows : List Diff) (start : List Cell) (rounds : List (List Cell)) (new : List Cell) (done x z : ℕ) → IsSettling rows start rounds done x
    → IsNext rows (length rows) (last_of rounds) new → z < length (last_of rounds) → Fell (last_of rounds) new z → IsSettling rows start (rounds ++ new ∷ []) (done + 1) z
settling_more rows start rounds new done x z s next in' fell =
    let some : 1 ≤ length rounds = omega (arith, s.count) in
    let long : length (last_of rounds) ≡ length start = s.are.long (length rounds - 1) (omega (arith, some)) in
    record {
      are = rounds_push rows (length start) rounds new s.are some next;
      first = round_old rounds new 0 (omega (arith, some)) ∙ s.first;
      count = length_push rounds new ∙ ap (λ n. n + 1) s.count;
      inside = omega (arith, in', long);
      fell = λ k e.
          let last : k ≡ length rounds - 1 = omega (arith, e, s.count) in
          let old : value (round_at (rounds ++ new ∷ []) k) z ≡ value (last_of rounds) z =
          ap (λ cells. value cells z) (round_old rounds new k (omega (arith, last, some)) ∙ ap (round_at rounds) last) in
          let here : value (round_at (rounds ++ new ∷ []) (done + 1)) z ≡ value new z = ap (λ cells. value cells z) (round_new rounds new (done + 1) (sym s.count)) in
          omega (arith, ints, old, here, fell);
    }

-- a round in which none falls: the one before it meets each row
pub settled : (rows : List Diff) (start : List Cell) (rounds : List (List Cell)) (new : List Cell) (done x : ℕ) → All (IsRow (length start)) rows → IsSettling rows start rounds done x
    → done < length start → IsNext rows (length rows) (last_of rounds) new → Stays (last_of rounds) new → IsStableFrom rows start rounds
settled rows start rounds new done x all s l next stays =
    let long : length (last_of rounds) ≡ length start = s.are.long (length rounds - 1) (omega (arith, s.count)) in
    record {
      are = s.are;
      first = s.first;
      some = omega (arith, s.count);
      many = omega (arith, s.count, l);
      stable = λ i lt.
          let row : IsRow (length start) (row_at rows i) = row_in (length start) rows i all lt in
          let a : value (last_of rounds) (row_at rows i).x ≤ℤ value new (row_at rows i).x = stays (row_at rows i).x (omega (arith, row.x, long)) in
          let b : value new (row_at rows i).x ≤ℤ asked rows i (last_of rounds) = next.below i lt in
          omega (arith, ints, a, b);
    }

pub settling_near : (rows : List Diff) (start : List Cell) (rounds : List (List Cell)) (done x : ℕ) → All (IsRow (length start)) rows → IsSettling rows start rounds done x
    → done < length start → length start ≤ 65 → (z : ℕ) → Within (2 ^ 101) (value (last_of rounds) z)
settling_near rows start rounds done x all s l few z =
    near_within (length rounds - 1) (value (last_of rounds) z) (omega (arith, s.count, l, few)) (near_at rows (length start) rounds all s.are (length rounds - 1) (omega (arith, s.count)) z)

-- the last round, read from the vectors
pub last_is : (rounds held : List (Vec Cell)) (cells : List Cell) → cells ≡ last_of (lists held) → held ≡ rounds → cells ≡ last_of (lists rounds)
last_is rounds held cells e same = e ∙ ap (λ (l : List (Vec Cell)). last_of (lists l)) same

-- the three laws above, as the code names its parts
pub old_near : (rows : List Diff) (start old : List Cell) (rounds : List (Vec Cell)) (done x : ℕ) → All (IsRow (length start)) rows → IsSettling rows start (lists rounds) done x
    → done < length start → length start ≤ 65 → old ≡ last_of (lists rounds) → (z : ℕ) → Within (2 ^ 101) (value old z)
old_near rows start old rounds done x all s l few e z =
    subst (λ cells. Within (2 ^ 101) (value cells z)) (sym e) (settling_near rows start (lists rounds) done x all s l few z)

pub old_long : (rows : List Diff) (start old : List Cell) (rounds : List (Vec Cell)) (done x : ℕ) → IsSettling rows start (lists rounds) done x → old ≡ last_of (lists rounds) → length old ≡ length start
old_long rows start old rounds done x s e = ap length e ∙ s.are.long (length (lists rounds) - 1) (omega (arith, s.count))

pub grown : (rows : List Diff) (start old seen : List Cell) (rounds longer : List (Vec Cell)) (new : Vec Cell) (done x z : ℕ) → IsSettling rows start (lists rounds) done x
    → old ≡ last_of (lists rounds) → IsNext rows (length rows) old new.items → seen ≡ new.items → z < length old → Fell old seen z → longer ≡ rounds ++ new ∷ []
    → IsSettling rows start (lists longer) (done + 1) z
grown rows start old seen rounds longer new done x z s e next same in' fell more =
    let next' : IsNext rows (length rows) (last_of (lists rounds)) new.items = subst (λ cells. IsNext rows (length rows) cells new.items) e next in
    let fell' : Fell (last_of (lists rounds)) new.items z = subst (λ cells. Fell cells new.items z) e (subst (λ cells. Fell old cells z) same fell) in
    let step : IsSettling rows start (lists rounds ++ new.items ∷ []) (done + 1) z =
    settling_more rows start (lists rounds) new.items done x z s next' (omega (arith, in', ap length e)) fell' in
    subst (λ l. IsSettling rows start l (done + 1) z) (sym (ap lists more ∙ lists_push rounds new)) step

pub stood : (rows : List Diff) (start old seen : List Cell) (rounds : List (Vec Cell)) (new : List Cell) (done x : ℕ) → All (IsRow (length start)) rows → IsSettling rows start (lists rounds) done x
    → done < length start → old ≡ last_of (lists rounds) → IsNext rows (length rows) old new → seen ≡ new → Stays old seen → IsStableFrom rows start (lists rounds)
stood rows start old seen rounds new done x all s l e next same stays =
    let next' : IsNext rows (length rows) (last_of (lists rounds)) new = subst (λ cells. IsNext rows (length rows) cells new) e next in
    let stays' : Stays (last_of (lists rounds)) new = subst (λ cells. Stays cells new) e (subst (Stays old) same stays) in
    settled rows start (lists rounds) new done x all s l next' stays'
