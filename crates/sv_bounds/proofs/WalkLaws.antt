-- The walk that looks for a cycle: its marks, and that it ends.
use Rattle.std.proofs.Common.{◌≡◌, ◌⊎◌, inl, inr, ℕ, ◌+◌, ◌-◌, ◌<◌, ◌≤◌, cond, List, [], ◌∷◌, ◌++◌, length, drop, set, get_or, replicate, count_by, All, Option, Some, None, pos, ◌+ℤ◌, ◌<ℤ◌, ◌≤ℤ◌, refl, sym, ap, subst, ◌∙◌, arith}
use Rattle.std.proofs.lemmas.Int.{ints}
use Rattle.std.proofs.lemmas.Bool.{cases_eq, cases_lt}
use Rattle.std.proofs.lemmas.List.{get_or-set_same, get_or-set_other, get_or-replicate, get_or_past, length-set, length_push, length-replicate, drop-append-le, drop_at}
use Rattle.std.proofs.lemmas.List.Sums.{sum_by-set, count_by-le-length}
use Rattle.sv_bounds.specs.declared.systems.Diff.{Diff}
use Rattle.sv_bounds.specs.declared.rounds.Cell.{Cell}
use Rattle.sv_bounds.specs.Differences.{row_at, IsRow, IsChain, sum_of, IsCycle}
use Rattle.sv_bounds.specs.Rounds.{cell_of, value, asked, IsLowered, IsNext, Fell, round_at, AreRounds}
use Rattle.sv_bounds.specs.Walks.{is_marked, IsMark, IsWalk}
use Rattle.sv_bounds.proofs.ChainLaws.{row_in, chain_push, sum_push}
use Rattle.sv_bounds.proofs.FallLaws.{falls, lowered_at}

-- a variable comes again: the rows since its mark form a cycle
pub walk_closes : (rows : List Diff) (vars : ℕ) (rounds : List (List Cell)) (r : ℕ) (seen : List (Option ℕ)) (chain : List ℕ) (x p : ℕ)
    → IsWalk rows vars rounds r seen chain x → get_or seen x None ≡ Some p → IsCycle rows (drop p chain)
walk_closes rows vars rounds r seen chain x p walk e =
    let mark : IsMark rows rounds r chain x x p = walk.marks x p e in
    let less : (sum_of rows (drop p chain) +ℤ value (round_at rounds r) x) <ℤ value (round_at rounds r) x = mark.less r (omega arith) in
    let below : sum_of rows (drop p chain) <ℤ pos 0 = omega (arith, ints, less) in
    record {
      some = λ none. let zero_sum : sum_of rows (drop p chain) ≡ pos 0 = ap (sum_of rows) none in absurd (omega (arith, ints, zero_sum, below));
      at = x;
      closed = mark.leads;
      below = below;
    }

abbrev weight : Option ℕ → ℕ
weight o = cond (is_marked o) 1 0

pub count_more : (seen : List (Option ℕ)) (x p : ℕ) → x < length seen → get_or seen x None ≡ None → count_by is_marked (set seen x (Some p)) ≡ count_by is_marked seen + 1
count_more seen x p l e =
    let step : count_by is_marked (set seen x (Some p)) + weight (get_or seen x None) ≡ count_by is_marked seen + 1 =
    sum_by-set weight seen x (Some p) None l in
    let free : weight (get_or seen x None) ≡ 0 = ap weight e in
    omega (arith, step, free)

-- where a variable is not marked there is a round below
pub walk_goes_on : (rows : List Diff) (vars : ℕ) (rounds : List (List Cell)) (r : ℕ) (seen : List (Option ℕ)) (chain : List ℕ) (x : ℕ)
    → IsWalk rows vars rounds r seen chain x → get_or seen x None ≡ None → 1 ≤ r
walk_goes_on rows vars rounds r seen chain x walk e =
    let more : count_by is_marked (set seen x (Some 0)) ≡ count_by is_marked seen + 1 = count_more seen x 0 (omega (arith, walk.inside, walk.long)) e in
    let most : count_by is_marked (set seen x (Some 0)) ≤ length (set seen x (Some 0)) = count_by-le-length is_marked (set seen x (Some 0)) in
    omega (arith, more, most, length-set seen x (Some 0), walk.long, walk.count, walk.down)

some_same : (p q : ℕ) → Some p ≡ Some q → p ≡ q
some_same p q e = cc

-- a mark after one more row
mark_on : (rows : List Diff) (rounds : List (List Cell)) (r : ℕ) (chain : List ℕ) (x z p i : ℕ) → IsMark rows rounds (r + 1) chain x z p
    → i < length rows → (row_at rows i).x ≡ x → value (round_at rounds (r + 1)) x ≡ asked rows i (round_at rounds r)
    → IsMark rows rounds r (chain ++ i ∷ []) (row_at rows i).y z p
mark_on rows rounds r chain x z p i mark l from is =
    let cut : drop p (chain ++ i ∷ []) ≡ drop p chain ++ i ∷ [] = drop-append-le p chain (i ∷ []) mark.behind in
    record {
      behind = omega (arith, mark.behind, length_push chain i);
      leads = subst (λ c. IsChain rows z c (row_at rows i).y) (sym cut) (chain_push rows (drop p chain) z x i mark.leads l from);
      less = λ k le.
          let sum : sum_of rows (drop p (chain ++ i ∷ [])) ≡ (sum_of rows (drop p chain) +ℤ (row_at rows i).most) = ap (sum_of rows) cut ∙ sum_push rows (drop p chain) i in
          let less : (sum_of rows (drop p chain) +ℤ value (round_at rounds (r + 1)) x) <ℤ value (round_at rounds k) z = mark.less k (omega (arith, le)) in
          omega (arith, ints, sum, less, is);
    }

-- the mark that is set where the walk stands
mark_here : (rows : List Diff) (vars : ℕ) (rounds : List (List Cell)) → AreRounds rows vars rounds → (r : ℕ) (chain : List ℕ) (x i : ℕ) → r + 1 < length rounds → x < vars
    → Fell (round_at rounds r) (round_at rounds (r + 1)) x → i < length rows → (row_at rows i).x ≡ x → value (round_at rounds (r + 1)) x ≡ asked rows i (round_at rounds r)
    → IsMark rows rounds r (chain ++ i ∷ []) (row_at rows i).y x (length chain)
mark_here rows vars rounds are r chain x i l in' fell stands from is =
    let cut : drop (length chain) (chain ++ i ∷ []) ≡ i ∷ [] = drop_at chain (i ∷ []) (length chain) refl in
    record {
      behind = omega (arith, length_push chain i);
      leads = subst (λ c. IsChain rows x c (row_at rows i).y) (sym cut) (stands, from, refl);
      less = λ k le.
          let sum : sum_of rows (drop (length chain) (chain ++ i ∷ [])) ≡ ((row_at rows i).most +ℤ pos 0) = ap (sum_of rows) cut in
          let down : value (round_at rounds r) x ≤ℤ value (round_at rounds k) x = falls rows vars rounds are k r x le (omega (arith, l)) in' in
          omega (arith, ints, sum, down, fell, is);
    }

-- the variable that the row comes from fell in the round before
fell_on : (rows : List Diff) (vars : ℕ) (rounds : List (List Cell)) → AreRounds rows vars rounds → (k r x i : ℕ) → k + 1 ≡ r → r + 1 < length rounds → x < vars
    → Fell (round_at rounds r) (round_at rounds (r + 1)) x → i < length rows → (row_at rows i).x ≡ x → value (round_at rounds (r + 1)) x ≡ asked rows i (round_at rounds r)
    → Fell (round_at rounds k) (round_at rounds r) (row_at rows i).y
fell_on rows vars rounds are k r x i e l in' fell stands from is =
    let before : IsNext rows (length rows) (round_at rounds k) (round_at rounds (k + 1)) = are.next k (omega (arith, e, l)) in
    let below : value (round_at rounds (k + 1)) (row_at rows i).x ≤ℤ asked rows i (round_at rounds k) = before.below i stands in
    let same : value (round_at rounds (k + 1)) (row_at rows i).x ≡ value (round_at rounds r) x = ap (λ j. value (round_at rounds j) (row_at rows i).x) e ∙ ap (value (round_at rounds r)) from in
    omega (arith, ints, below, same, fell, is)

-- one row down
pub walk_step : (rows : List Diff) (vars : ℕ) (rounds : List (List Cell)) (r : ℕ) (seen : List (Option ℕ)) (chain : List ℕ) (x i : ℕ)
    → All (IsRow vars) rows → AreRounds rows vars rounds → length rounds ≡ vars + 1
    → IsWalk rows vars rounds (r + 1) seen chain x → get_or seen x None ≡ None
    → i < length rows → (row_at rows i).x ≡ x → value (round_at rounds (r + 1)) x ≡ asked rows i (round_at rounds r)
    → IsWalk rows vars rounds r (set seen x (Some (length chain))) (chain ++ i ∷ []) (row_at rows i).y
walk_step rows vars rounds r seen chain x i all are count walk free stands from is =
    let few : r + 1 < length rounds = omega (arith, walk.down, count) in
    let fell : Fell (round_at rounds r) (round_at rounds (r + 1)) x = walk.fell r refl in
    let in' : x < length seen = omega (arith, walk.inside, walk.long) in
    record {
      inside = (row_in vars rows i all stands).y;
      long = length-set seen x (Some (length chain)) ∙ walk.long;
      count = count_more seen x (length chain) in' free ∙ ap (λ n. n + 1) walk.count ∙ sym (length_push chain i);
      down = omega (arith, length_push chain i, walk.down);
      fell = λ k e. fell_on rows vars rounds are k r x i e few walk.inside fell stands from is;
      marks = λ z p e. marks_at z p e (cases_eq z x) in' fell few;
    }
  where
    marks_at : (z p : ℕ) → get_or (set seen x (Some (length chain))) z None ≡ Some p → (z ≡ x) ⊎ (z ≡ x → ⊥) → x < length seen → Fell (round_at rounds r) (round_at rounds (r + 1)) x → r + 1 < length rounds
        → IsMark rows rounds r (chain ++ i ∷ []) (row_at rows i).y z p
    marks_at z p e (inl same) in' fell few =
        let here : get_or (set seen x (Some (length chain))) z None ≡ Some (length chain) =
        ap (λ k. get_or (set seen x (Some (length chain))) k None) same ∙ get_or-set_same seen x (Some (length chain)) None in' in
        let q : length chain ≡ p = some_same (length chain) p (sym here ∙ e) in
        let mark : IsMark rows rounds r (chain ++ i ∷ []) (row_at rows i).y x (length chain) = mark_here rows vars rounds are r chain x i few walk.inside fell stands from is in
        subst (λ k. IsMark rows rounds r (chain ++ i ∷ []) (row_at rows i).y k p) (sym same) (subst (λ k. IsMark rows rounds r (chain ++ i ∷ []) (row_at rows i).y x k) q mark)
    marks_at z p e (inr apart) in' fell few =
        let old : get_or seen z None ≡ Some p = sym (get_or-set_other seen x z (Some (length chain)) None apart) ∙ e in
        mark_on rows rounds r chain x z p i (walk.marks z p old) stands from is

none_marked : (n z : ℕ) → get_or {A = Option ℕ} (replicate n None) z None ≡ None
none_marked n z = pick (cases_lt z n)
  where
    pick : (z < n) ⊎ (n ≤ z) → get_or {A = Option ℕ} (replicate n None) z None ≡ None
    pick (inl l) = get_or-replicate n z None None l
    pick (inr l) = get_or_past (replicate n None) z None (omega (arith, l, length-replicate {A = Option ℕ} n None))

-- the row that lowered the variable where the walk stands
walk_lowered : (rows : List Diff) (vars : ℕ) (rounds : List (List Cell)) (r : ℕ) (seen : List (Option ℕ)) (chain : List ℕ) (x : ℕ)
    → AreRounds rows vars rounds → length rounds ≡ vars + 1 → IsWalk rows vars rounds r seen chain x → get_or seen x None ≡ None
    → IsLowered rows (round_at rounds (r - 1)) x (cell_of (round_at rounds r) x)
walk_lowered rows vars rounds r seen chain x are count walk free =
    let some : 1 ≤ r = walk_goes_on rows vars rounds r seen chain x walk free in
    let one : r - 1 + 1 ≡ r = omega (arith, some) in
    let fell : Fell (round_at rounds (r - 1)) (round_at rounds (r - 1 + 1)) x = subst (λ k. Fell (round_at rounds (r - 1)) (round_at rounds k) x) (sym one) (walk.fell (r - 1) one) in
    subst (λ k. IsLowered rows (round_at rounds (r - 1)) x (cell_of (round_at rounds k) x)) one
    (lowered_at rows vars rounds are (r - 1) x (omega (arith, some, walk.down, count)) walk.inside fell)

pub walk_row : (rows : List Diff) (vars : ℕ) (rounds : List (List Cell)) (r : ℕ) (seen : List (Option ℕ)) (chain : List ℕ) (x by : ℕ)
    → AreRounds rows vars rounds → length rounds ≡ vars + 1 → IsWalk rows vars rounds r seen chain x → get_or seen x None ≡ None
    → by ≡ (cell_of (round_at rounds r) x).by → by < length rows
walk_row rows vars rounds r seen chain x by are count walk free e =
    let low : IsLowered rows (round_at rounds (r - 1)) x (cell_of (round_at rounds r) x) = walk_lowered rows vars rounds r seen chain x are count walk free in
    omega (arith, e, low.stands)

-- one row down, as the code names its parts
pub walk_on : (rows : List Diff) (vars : ℕ) (rounds : List (List Cell)) (r : ℕ) (seen : List (Option ℕ)) (chain : List ℕ) (x : ℕ)
    → All (IsRow vars) rows → AreRounds rows vars rounds → length rounds ≡ vars + 1 → IsWalk rows vars rounds r seen chain x → get_or seen x None ≡ None
    → (by n : ℕ) (longer : List ℕ) → by ≡ (cell_of (round_at rounds r) x).by → n ≡ length chain → longer ≡ chain ++ by ∷ []
    → IsWalk rows vars rounds (r - 1) (set seen x (Some n)) longer (row_at rows by).y
walk_on rows vars rounds r seen chain x all are count walk free by n longer e long more =
    let some : 1 ≤ r = walk_goes_on rows vars rounds r seen chain x walk free in
    let one : r - 1 + 1 ≡ r = omega (arith, some) in
    let low : IsLowered rows (round_at rounds (r - 1)) x (cell_of (round_at rounds r) x) = walk_lowered rows vars rounds r seen chain x are count walk free in
    let here : IsWalk rows vars rounds (r - 1 + 1) seen chain x = subst (λ k. IsWalk rows vars rounds k seen chain x) (sym one) walk in
    let is : value (round_at rounds (r - 1 + 1)) x ≡ asked rows by (round_at rounds (r - 1)) =
    ap (λ k. value (round_at rounds k) x) one ∙ low.is ∙ ap (λ j. asked rows j (round_at rounds (r - 1))) (sym e) in
    let step : IsWalk rows vars rounds (r - 1) (set seen x (Some (length chain))) (chain ++ by ∷ []) (row_at rows by).y =
    walk_step rows vars rounds (r - 1) seen chain x by all are count here free (omega (arith, e, low.stands)) (ap (λ j. (row_at rows j).x) e ∙ low.from) is in
    subst (λ m. IsWalk rows vars rounds (r - 1) (set seen x (Some m)) longer (row_at rows by).y) (sym long)
    (subst (λ l. IsWalk rows vars rounds (r - 1) (set seen x (Some (length chain))) l (row_at rows by).y) (sym more) step)
