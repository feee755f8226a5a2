-- The checks of a table and its rows of differences: numbers that meet the ones meet the others, and cycles are the same.
use Rattle.std.proofs.Common.{◌≡◌, ℕ, zero, suc, ◌<◌, List, [], ◌∷◌, length, get_or, refl, sym, ap, ◌∙◌, map, subst, arith, Option, Some, None}
use Rattle.std.specs.Prelude.{ℤ, pos, ◌+ℤ◌, ◌-ℤ◌, ◌<ℤ◌, ◌≤ℤ◌, slice_get}
use Rattle.std.specs.List.{All}
use Rattle.std.proofs.lemmas.Int.{ints}
use Rattle.std.proofs.lemmas.List.{length-map}
use Rattle.std.proofs.lemmas.List.Elements.{All-map}
use Rattle.sv_app.specs.declared.schemas.Check.{Check}
use Rattle.sv_app.specs.Satisfiable.{checks_of, number_of, value_of, IsMet, IsSatisfiable, bound_at, IsCycleOf}
use Rattle.sv_app.specs.Satisfiable.{IsChain as IsCheckChain, sum_of as check_sum}
use Rattle.sv_app.specs.Schema.{Declaration}
use Rattle.sv_bounds.specs.declared.systems.Diff.{Diff}
use Rattle.sv_bounds.specs.Differences.{row_at, Holds, Meets, IsChain, sum_of, IsCycle}
use Rattle.sv_gains.specs.Systems.{variable_of, row_of}

abbrev unvariable : ℕ → Option ℕ
unvariable zero = None
unvariable (suc column) = Some column

back : (side : Option ℕ) → unvariable (variable_of side) ≡ side
back None = refl
back (Some column) = refl

all_unmapped : {A B : Type 0} (f : A → B) (Q : B → Type 0) (xs : List A) → All Q (map f xs) → All (λ x. Q (f x)) xs
all_unmapped f Q [] each k d h = absurd (omega (arith, h))
all_unmapped f Q (x ∷ xs) each zero d h = each 0 (f x) (omega arith)
all_unmapped f Q (x ∷ xs) each (suc k) d h = all_unmapped f Q xs (λ j e less. each (suc j) e (omega (arith, less))) k d (omega (arith, h))

pub value_same : (v : ℕ → ℤ) (side : Option ℕ) → v 0 ≡ pos 0 → v (variable_of side) ≡ value_of (λ column. v (suc column)) side
value_same v None e = e
value_same v (Some column) e = refl

-- an assignment that meets the rows meets the checks
pub numbers_meet : (checks : List Check) (v : ℕ → ℤ) → Meets (map row_of checks) v → All (IsMet (λ column. v (suc column))) checks
numbers_meet checks v meets k d less =
    let check : Check = get_or checks k d in
    let held : Holds v (row_of check) = all_unmapped row_of (Holds v) checks meets.each k d less in
    subst (λ (p : ℤ × ℤ). (p.0 -ℤ p.1) ≤ℤ check.most) (λ i. (value_same v (number_of check.hi) meets.zero_first i, value_same v (number_of check.lo) meets.zero_first i)) held

pub satisfied : (table : Declaration) (v : ℕ → ℤ) → Meets (map row_of (checks_of table)) v → IsSatisfiable table
satisfied table v meets = record {
  values = λ column. v (suc column);
  met = numbers_meet (checks_of table) v meets;
}

-- numbers as an assignment, which meets the rows where the numbers meet the checks
abbrev pub with_zero : (ℕ → ℤ) → ℕ → ℤ
with_zero numbers zero = pos 0
with_zero numbers (suc column) = numbers column

pub with_zero_at : (numbers : ℕ → ℤ) (side : Option ℕ) → with_zero numbers (variable_of side) ≡ value_of numbers side
with_zero_at numbers None = refl
with_zero_at numbers (Some column) = refl

pub rows_meet : (checks : List Check) (numbers : ℕ → ℤ) → All (IsMet numbers) checks → Meets (map row_of checks) (with_zero numbers)
rows_meet checks numbers met = record {
  zero_first = refl;
  each = All-map (Holds (with_zero numbers)) row_of checks (λ k d less.
      let check : Check = get_or checks k d in
      subst (λ (p : ℤ × ℤ). (p.0 -ℤ p.1) ≤ℤ check.most) (λ i. (sym (with_zero_at numbers (number_of check.hi)) i, sym (with_zero_at numbers (number_of check.lo)) i)) (met k d less));
}

check_at : (checks : List Check) (i : ℕ) → i < length checks → (check : Check) × (slice_get checks i ≡ Some check) × (row_at (map row_of checks) i ≡ row_of check)
check_at [] i h = absurd (omega (arith, h))
check_at (check ∷ checks) zero h = (check, refl, refl)
check_at (check ∷ checks) (suc i) h = check_at checks i (omega (arith, h))

chain_same : (checks : List Check) (x : ℕ) (chain : List ℕ) (y : ℕ) → IsChain (map row_of checks) x chain y → IsCheckChain checks (unvariable x) chain (unvariable y)
chain_same checks x [] y e = ap unvariable e
chain_same checks x (i ∷ chain) y (less, begins, rest) =
    let few : i < length checks = let same : length (map row_of checks) ≡ length checks = length-map checks row_of in omega (arith, same, less) in
    let found = check_at checks i few in
    record {
      check = found.0;
      stands = found.1;
      begins = sym (back (number_of found.0.hi)) ∙ ap unvariable (sym (ap (λ (r : Diff). r.x) found.2) ∙ begins);
      goes = subst (λ next. IsCheckChain checks next chain (unvariable y)) (ap (λ (r : Diff). unvariable r.y) found.2 ∙ back (number_of found.0.lo)) (chain_same checks _ chain y rest);
    }

bound_same : (checks : List Check) (i : ℕ) → (row_at (map row_of checks) i).most ≡ bound_at (slice_get checks i)
bound_same [] i = refl
bound_same (check ∷ checks) zero = refl
bound_same (check ∷ checks) (suc i) = bound_same checks i

sum_same : (checks : List Check) (chain : List ℕ) → sum_of (map row_of checks) chain ≡ check_sum checks chain
sum_same checks [] = refl
sum_same checks (i ∷ chain) = (λ j. bound_same checks i j +ℤ sum_same checks chain j)

-- a cycle of the rows is one of the checks
pub cycle_same : (checks : List Check) (chain : List ℕ) → IsCycle (map row_of checks) chain → IsCycleOf checks chain
cycle_same checks chain cycle = record {
  some = cycle.some;
  at = unvariable cycle.at;
  closed = chain_same checks cycle.at chain cycle.at cycle.closed;
  below = subst (λ n. n <ℤ pos 0) (sum_same checks chain) cycle.below;
}

met_at : (v : ℕ → ℤ) (checks : List Check) (i : ℕ) (check : Check) → All (IsMet v) checks → slice_get checks i ≡ Some check → IsMet v check
met_at v [] i check each e = absurd cc
met_at v (x ∷ checks) zero check each e = let same : x ≡ check = cc in subst (IsMet v) same (each 0 x (omega arith))
met_at v (x ∷ checks) (suc i) check each e = met_at v checks i check (λ j d less. each (suc j) d (omega (arith, less))) e

one_further : (a b c m s : ℤ) → (a -ℤ b) ≤ℤ m → (b -ℤ c) ≤ℤ s → (a -ℤ c) ≤ℤ (m +ℤ s)
one_further a b c m s p q = grind (arith, ints, p, q)

-- along a chain of checks that are met the difference is at most the sum of the bounds
along : (v : ℕ → ℤ) (checks : List Check) (from : Option ℕ) (chain : List ℕ) (to : Option ℕ) → All (IsMet v) checks → IsCheckChain checks from chain to
    → (value_of v from -ℤ value_of v to) ≤ℤ check_sum checks chain
along v checks from [] to each e = subst (λ side. (value_of v from -ℤ value_of v side) ≤ℤ pos 0) e (grind (arith, ints))
along v checks from (i ∷ chain) to each lead =
    let met : IsMet v lead.check = met_at v checks i lead.check each lead.stands in
    let first : (value_of v from -ℤ value_of v (number_of lead.check.lo)) ≤ℤ lead.check.most = subst (λ side. (value_of v side -ℤ value_of v (number_of lead.check.lo)) ≤ℤ lead.check.most) lead.begins met in
    let bound : lead.check.most ≡ bound_at (slice_get checks i) = sym (ap bound_at lead.stands) in
    subst (λ m. (value_of v from -ℤ value_of v to) ≤ℤ (m +ℤ check_sum checks chain)) bound
    (one_further (value_of v from) (value_of v (number_of lead.check.lo)) (value_of v to) lead.check.most (check_sum checks chain) first (along v checks (number_of lead.check.lo) chain to each lead.goes))

no_less : (a s : ℤ) → (a -ℤ a) ≤ℤ s → s <ℤ pos 0 → ⊥
no_less a s p q = grind (arith, ints, p, q)

-- no row can meet checks with a cycle
pub unmet : (table : Declaration) (chain : List ℕ) → IsSatisfiable table → IsCycleOf (checks_of table) chain → ⊥
unmet table chain met cycle =
    no_less (value_of met.values cycle.at) (check_sum (checks_of table) chain) (along met.values (checks_of table) cycle.at chain cycle.at met.met cycle.closed) cycle.below
