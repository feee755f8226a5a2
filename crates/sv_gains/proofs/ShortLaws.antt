-- Where rows lead from one variable to another, some that pass no variable twice do so too, with no greater sum; so a greatest difference is short.
use Rattle.std.proofs.Common.{◌≡◌, ◌⊎◌, inl, inr, ℕ, zero, suc, ◌*◌, ◌^◌, ◌<◌, ◌≤◌, Bool, true, false, List, [], ◌∷◌, length, map, All, ℤ, pos, ◌+ℤ◌, ◌-ℤ◌, ◌≤ℤ◌, refl, sym, subst, ◌∙◌, arith}
use Rattle.std.specs.Prelude.{◌||◌}
use Rattle.std.specs.List.{IsDistinct, AllByRecursion, list_any}
use Rattle.std.proofs.Math.Dec.{eqb}
use Rattle.std.proofs.lemmas.Bool.{eqb-true}
use Rattle.std.proofs.lemmas.Int.{ints}
use Rattle.std.proofs.lemmas.List.{length-map}
use Rattle.std.proofs.lemmas.Map.Keys.{IsDistinct-cons}
use Rattle.std.proofs.lemmas.Map.Steps.{length-le_from_distinct_below}
use Rattle.sv_bounds.specs.declared.systems.Diff.{Diff}
use Rattle.sv_bounds.specs.declared.systems.System.{System}
use Rattle.sv_bounds.specs.Answers.{IsMost, assigned}
use Rattle.sv_bounds.specs.Differences.{row_at, Within, IsRow, IsSolvable, IsChain, sum_of}
use Rattle.sv_bounds.proofs.ChainLaws.{row_in, chain_bounds, closed_sum}
use Rattle.sv_gains.specs.Systems.{IsCheckRow}

-- where the rows of a chain begin
abbrev starts : List Diff → List ℕ → List ℕ
starts rows chain = map (λ i. (row_at rows i).x) chain

-- a chain that passes a variable: what leads to it, and what leads on from it
record Splits (rows : List Diff) (from over to : ℕ) (chain : List ℕ) : Type 0 where
  front : List ℕ
  back : List ℕ
  begins : IsChain rows from front over
  ends : IsChain rows over back to
  sum : sum_of rows chain ≡ (sum_of rows front +ℤ sum_of rows back)
  few : length back ≤ length chain

split : (rows : List Diff) (chain : List ℕ) (from over to : ℕ) → IsChain rows from chain to → list_any (eqb over) (starts rows chain) ≡ true → Splits rows from over to chain
split rows [] from over to leads any = absurd cc
split rows (i ∷ chain) from over to leads any = either (split rows chain (row_at rows i).y over to leads.2) (eqb over (row_at rows i).x) refl any
  where
    either : (list_any (eqb over) (starts rows chain) ≡ true → Splits rows (row_at rows i).y over to chain) → (b : Bool) → eqb over (row_at rows i).x ≡ b
        → (b || list_any (eqb over) (starts rows chain)) ≡ true → Splits rows from over to (i ∷ chain)
    either ih true is any =
        let same : over ≡ (row_at rows i).x = eqb-true over (row_at rows i).x is in
        record {
          front = [];
          back = i ∷ chain;
          begins = sym leads.1 ∙ sym same;
          ends = (leads.0, sym same, leads.2);
          sum = omega (arith, ints);
          few = omega arith;
        }
    either ih false is any =
        let later : Splits rows (row_at rows i).y over to chain = ih any in
        let sum : sum_of rows chain ≡ (sum_of rows later.front +ℤ sum_of rows later.back) = later.sum in
        record {
          front = i ∷ later.front;
          back = later.back;
          begins = (leads.0, leads.1, later.begins);
          ends = later.ends;
          sum = omega (arith, ints, sum);
          few = omega (arith, later.few);
        }

-- a chain between the same variables, with no greater sum
record Leads (rows : List Diff) (from to : ℕ) (most : ℤ) (long : ℕ) : Type 0 where
  chain : List ℕ
  leads : IsChain rows from chain to
  less : sum_of rows chain ≤ℤ most
  few : length chain ≤ long

none_equal : (q : ℕ) (xs : List ℕ) → list_any (eqb q) xs ≡ false → AllByRecursion (λ y. eqb q y ≡ false) xs
none_equal q [] e = tt
none_equal q (x ∷ xs) e = either (none_equal q xs) (eqb q x) refl e
  where
    either : (list_any (eqb q) xs ≡ false → AllByRecursion (λ y. eqb q y ≡ false) xs) → (b : Bool) → eqb q x ≡ b → (b || list_any (eqb q) xs) ≡ false
        → (eqb q x ≡ false) × AllByRecursion (λ y. eqb q y ≡ false) xs
    either ih true is e = absurd cc
    either ih false is e = (is, ih e)

-- it passes no variable twice, or there is a chain with fewer rows
shorten : (rows : List Diff) → IsSolvable rows → (chain : List ℕ) (from to : ℕ) → IsChain rows from chain to
    → IsDistinct eqb (starts rows chain) ⊎ ((n : ℕ) × (n < length chain) × Leads rows from to (sum_of rows chain) n)
unfolding IsDistinct
shorten rows solvable [] from to leads = inl tt
shorten rows solvable (i ∷ chain) from to leads = by (shorten rows solvable chain (row_at rows i).y to leads.2)
  where
    again : IsDistinct eqb (starts rows chain) → (b : Bool) → list_any (eqb (row_at rows i).x) (starts rows chain) ≡ b
        → IsDistinct eqb (starts rows (i ∷ chain)) ⊎ ((n : ℕ) × (n < length (i ∷ chain)) × Leads rows from to (sum_of rows (i ∷ chain)) n)
    again distinct true any =
        let over : ℕ = (row_at rows i).x in
        let parts : Splits rows (row_at rows i).y over to chain = split rows chain (row_at rows i).y over to leads.2 any in
        let whole : sum_of rows chain ≡ (sum_of rows parts.front +ℤ sum_of rows parts.back) = parts.sum in
        let round : pos 0 ≤ℤ sum_of rows (i ∷ parts.front) = closed_sum rows (i ∷ parts.front) over solvable (leads.0, refl, parts.begins) in
        inr (
          length parts.back,
          omega (arith, parts.few),
          record {
            chain = parts.back;
            leads = subst (λ x. IsChain rows x parts.back to) leads.1 parts.ends;
            less = omega (arith, ints, whole, round);
            few = omega arith;
          },
        )
    again distinct false any = inl (IsDistinct-cons eqb (row_at rows i).x (starts rows chain) (none_equal (row_at rows i).x (starts rows chain) any) distinct)

    by : IsDistinct eqb (starts rows chain) ⊎ ((n : ℕ) × (n < length chain) × Leads rows (row_at rows i).y to (sum_of rows chain) n)
        → IsDistinct eqb (starts rows (i ∷ chain)) ⊎ ((n : ℕ) × (n < length (i ∷ chain)) × Leads rows from to (sum_of rows (i ∷ chain)) n)
    by (inl distinct) = again distinct (list_any (eqb (row_at rows i).x) (starts rows chain)) refl
    by (inr (n, fewer, later)) =
        let less : sum_of rows later.chain ≤ℤ sum_of rows chain = later.less in
        inr (
          suc n,
          omega (arith, fewer),
          record {
            chain = i ∷ later.chain;
            leads = (leads.0, leads.1, later.leads);
            less = omega (arith, ints, less);
            few = omega (arith, later.few);
          },
        )

begins_below : (vars : ℕ) (rows : List Diff) (chain : List ℕ) (from to q : ℕ) → All (IsRow vars) rows → IsChain rows from chain to → list_any (eqb q) (starts rows chain) ≡ true → q < vars
begins_below vars rows [] from to q all leads any = absurd cc
begins_below vars rows (i ∷ chain) from to q all leads any = either (begins_below vars rows chain (row_at rows i).y to q all leads.2) (eqb q (row_at rows i).x) refl any
  where
    either : (list_any (eqb q) (starts rows chain) ≡ true → q < vars) → (b : Bool) → eqb q (row_at rows i).x ≡ b → (b || list_any (eqb q) (starts rows chain)) ≡ true → q < vars
    either ih true is any = let same : q ≡ (row_at rows i).x = eqb-true q (row_at rows i).x is in omega (arith, same, (row_in vars rows i all leads.0).x)
    either ih false is any = ih any

distinct_few : (vars : ℕ) (rows : List Diff) (chain : List ℕ) (from to : ℕ) → All (IsRow vars) rows → IsChain rows from chain to → IsDistinct eqb (starts rows chain) → length chain ≤ vars
distinct_few vars rows chain from to all leads distinct =
    let count : length (starts rows chain) ≤ vars = length-le_from_distinct_below (starts rows chain) vars distinct (λ q any. begins_below vars rows chain from to q all leads any) in
    omega (arith, count, length-map chain (λ i. (row_at rows i).x))

-- some chain has at most as many rows as there are variables
few_rows_lead : (fuel vars : ℕ) (rows : List Diff) → IsSolvable rows → All (IsRow vars) rows → (chain : List ℕ) (from to : ℕ) → length chain ≤ fuel → IsChain rows from chain to
    → Leads rows from to (sum_of rows chain) vars
few_rows_lead zero vars rows solvable all chain from to long leads = record {
  chain = chain;
  leads = leads;
  less = omega (arith, ints);
  few = omega (arith, long);
}
few_rows_lead (suc fuel) vars rows solvable all chain from to long leads =
    by (λ shorter fewer way. few_rows_lead fuel vars rows solvable all shorter from to fewer way) (shorten rows solvable chain from to leads)
  where
    by : ((shorter : List ℕ) → length shorter ≤ fuel → IsChain rows from shorter to → Leads rows from to (sum_of rows shorter) vars)
        → IsDistinct eqb (starts rows chain) ⊎ ((n : ℕ) × (n < length chain) × Leads rows from to (sum_of rows chain) n) → Leads rows from to (sum_of rows chain) vars
    by ih (inl distinct) = record {
      chain = chain;
      leads = leads;
      less = omega (arith, ints);
      few = distinct_few vars rows chain from to all leads distinct;
    }
    by ih (inr (n, fewer, later)) =
        let found : Leads rows from to (sum_of rows later.chain) vars = ih later.chain (omega (arith, long, fewer, later.few)) later.leads in
        let one : sum_of rows found.chain ≤ℤ sum_of rows later.chain = found.less in
        let two : sum_of rows later.chain ≤ℤ sum_of rows chain = later.less in
        record {
          chain = found.chain;
          leads = found.leads;
          less = omega (arith, ints, one, two);
          few = found.few;
        }

-- the sum of a chain of such rows
sum_within : (rows : List Diff) (chain : List ℕ) (from to : ℕ) → All IsCheckRow rows → IsChain rows from chain to → Within (length chain * 2 ^ 63) (sum_of rows chain)
sum_within rows [] from to all leads = record { low = omega (arith, ints); high = omega (arith, ints) }
sum_within rows (i ∷ chain) from to all leads =
    let rest : Within (length chain * 2 ^ 63) (sum_of rows chain) = sum_within rows chain (row_at rows i).y to all leads.2 in
    let row : IsCheckRow (row_at rows i) = all i _ leads.0 in
    record {
      low = omega (arith, ints, rest.low, row.short.low);
      high = omega (arith, ints, rest.high, row.short.high);
    }

wider : (n : ℕ) (z : ℤ) → n ≤ 17 → Within (n * 2 ^ 63) z → Within (2 ^ 68) z
wider n z few within = record {
  low = omega (arith, ints, few, within.low);
  high = omega (arith, ints, few, within.high);
}

-- a greatest difference is the sum of few rows
pub most_short : (s : System) (x y : ℕ) (most : ℤ) (values : List ℤ) (chain : List ℕ) → s.vars ≡ 17 → IsSolvable s.rows → All (IsRow s.vars) s.rows → All IsCheckRow s.rows
    → IsMost s x y most values chain → Within (2 ^ 68) most
most_short s x y most values chain vars solvable all within is =
    let found : Leads s.rows x y (sum_of s.rows chain) s.vars = few_rows_lead (length chain) s.vars s.rows solvable all chain x y (omega arith) is.leads in
    let bound : (assigned values x -ℤ assigned values y) ≤ℤ sum_of s.rows found.chain = chain_bounds s.rows (assigned values) found.chain x y is.solution.meets.each found.leads in
    let less : sum_of s.rows found.chain ≤ℤ sum_of s.rows chain = found.less in
    let sum : sum_of s.rows chain ≡ most = is.sum in
    let reached : (assigned values x -ℤ assigned values y) ≡ most = is.reached in
    let same : sum_of s.rows found.chain ≡ most = omega (arith, ints, bound, less, sum, reached) in
    subst (Within (2 ^ 68)) same (wider (length found.chain) (sum_of s.rows found.chain) (omega (arith, found.few, vars)) (sum_within s.rows found.chain x y within found.leads))
