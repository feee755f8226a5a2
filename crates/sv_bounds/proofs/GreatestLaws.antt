-- The greatest difference, from rounds that start at zero at one variable and far at the others.
use Rattle.std.proofs.Common.{◌≡◌, ◌⊎◌, inl, inr, ℕ, ◌-◌, ◌^◌, ◌<◌, ◌≤◌, List, length, All, ℤ, pos, ◌-ℤ◌, ◌<ℤ◌, ◌≤ℤ◌, refl, sym, ap, subst, ◌∙◌, arith}
use Rattle.std.specs.Global.{Vec}
use Rattle.std.proofs.lemmas.Int.{ints}
use Rattle.std.proofs.lemmas.Bool.{cases_eq}
use Rattle.sv_bounds.specs.declared.systems.Diff.{Diff}
use Rattle.sv_bounds.specs.declared.systems.System.{System}
use Rattle.sv_bounds.specs.declared.systems.Widest.{Widest}
use Rattle.sv_bounds.specs.declared.systems.Widest.TheVariants.{Most, Unbounded}
use Rattle.sv_bounds.specs.declared.rounds.Cell.{Cell}
use Rattle.sv_bounds.specs.declared.settling.Settled.{Settled}
use Rattle.sv_bounds.specs.declared.settling.Settled.TheVariants.{Stable}
use Rattle.sv_bounds.specs.Differences.{Within, IsRow, IsSolvable, IsChain, sum_of, IsUnbounded}
use Rattle.sv_bounds.specs.Answers.{IsSystem, assigned, IsMost, IsWidest, IsExact}
use Rattle.sv_bounds.specs.Rounds.{value, lists, round_at, Near, AreRounds, IsStable}
use Rattle.sv_bounds.specs.Settling.{last_of, IsBegun, IsSettled, IsStableFrom, IsShifted}
use Rattle.sv_bounds.specs.Walks.{Descends}
use Rattle.sv_bounds.proofs.ChainLaws.{chain_is_bound, closed_sum}
use Rattle.sv_bounds.proofs.FallLaws.{falls, near_at, near_within}
use Rattle.sv_bounds.proofs.SettleLaws.{last_is, lists_length}
use Rattle.sv_bounds.proofs.DescentLaws.{ends}
use Rattle.sv_bounds.proofs.ApartLaws.{unbounded}
use Rattle.sv_bounds.proofs.AnswerLaws.{settled_stable, shifted_meets}

-- rounds that started at y and settled at these cells
pub record IsReach (s : System) (y : ℕ) (rounds : List (List Cell)) (cells : List Cell) : Type 0 where
  pub system : IsSystem s
  pub inside : y < s.vars
  pub are : AreRounds s.rows s.vars rounds
  pub some : 1 ≤ length rounds
  pub few : length rounds ≤ 65
  pub last : cells ≡ last_of rounds
  pub begun : IsBegun s.vars y (pos (2 ^ 100)) (round_at rounds 0)
  pub stable : IsStable s.rows cells

pub reach_is : (s : System) (y : ℕ) (start : List Cell) (rounds : List (List Cell)) (cells : List Cell) → IsSystem s → y < s.vars → IsBegun s.vars y (pos (2 ^ 100)) start
    → IsStableFrom s.rows start rounds → cells ≡ last_of rounds → IsReach s y rounds cells
reach_is s y start rounds cells is h begun st e = record {
  system = is;
  inside = h;
  are = subst (λ n. AreRounds s.rows n rounds) begun.long st.are;
  some = st.some;
  few = omega (arith, st.many, begun.long, is.few);
  last = e;
  begun = subst (IsBegun s.vars y (pos (2 ^ 100))) (sym st.first) begun;
  stable = subst (IsStable s.rows) (sym e) st.stable;
}

-- the same, as the code names its parts
pub reach_of : (s : System) (y : ℕ) (held : List Diff) (start : List Cell) (f : Settled) (rounds : Vec (Vec Cell)) (seen : List (Vec Cell)) (cells : List Cell) → IsSystem s → y < s.vars
    → IsBegun s.vars y (pos (2 ^ 100)) start → IsSettled held start f → f ≡ Stable rounds → held ≡ s.rows → cells ≡ last_of (lists seen) → seen ≡ rounds.items → IsReach s y (lists rounds.items) cells
reach_of s y held start f rounds seen cells is h begun settled e same last from =
    reach_is s y start (lists rounds.items) cells is h begun (settled_stable s.rows held start f rounds settled e same) (last_is rounds.items seen cells last from)

pub descends_same : (rows held : List Diff) (vars : ℕ) (rounds seen : List (Vec Cell)) (x : ℕ) (chain : List ℕ) → Descends held vars (lists seen) (length seen - 1) x chain → held ≡ rows → seen ≡ rounds
    → Descends rows vars (lists rounds) (length (lists rounds) - 1) x chain
descends_same rows held vars rounds seen x chain d same from =
    let top : length seen - 1 ≡ length (lists rounds) - 1 = omega (arith, lists_length rounds, ap length from) in
    subst (λ r. Descends r vars (lists rounds) (length (lists rounds) - 1) x chain) same
    (subst (λ n. Descends held vars (lists rounds) n x chain) top
    (subst (λ (l : List (Vec Cell)). Descends held vars (lists l) (length seen - 1) x chain) from d))

pub reach_long : (s : System) (y : ℕ) (rounds : List (List Cell)) (cells : List Cell) → IsReach s y rounds cells → length cells ≡ s.vars
reach_long s y rounds cells r = ap length r.last ∙ r.are.long (length rounds - 1) (omega (arith, r.some))

pub reach_near : (s : System) (y : ℕ) (rounds : List (List Cell)) (cells : List Cell) → IsReach s y rounds cells → (z : ℕ) → Near (length rounds - 1) (value cells z)
reach_near s y rounds cells r z =
    subst (λ c. Near (length rounds - 1) (value c z)) (sym r.last) (near_at s.rows s.vars rounds r.system.rows r.are (length rounds - 1) (omega (arith, r.some)) z)

pub reach_within : (s : System) (y : ℕ) (rounds : List (List Cell)) (cells : List Cell) → IsReach s y rounds cells → (z : ℕ) → Within (2 ^ 101) (value cells z)
reach_within s y rounds cells r z = near_within (length rounds - 1) (value cells z) (omega (arith, r.few)) (reach_near s y rounds cells r z)

-- rows that lead down from a variable that is not far end at y, and add up to its value
descent_reaches : (s : System) (y : ℕ) (rounds : List (List Cell)) (cells : List Cell) (x : ℕ) (chain : List ℕ) → IsReach s y rounds cells
    → Descends s.rows s.vars rounds (length rounds - 1) x chain → value cells x <ℤ pos (2 ^ 99) → IsChain s.rows x chain y × (sum_of s.rows chain ≡ value cells x)
descent_reaches s y rounds cells x chain r d low = pick (cases_eq d.end y) (ap (λ c. value c x) r.last)
  where
    pick : (d.end ≡ y) ⊎ (d.end ≡ y → ⊥) → value cells x ≡ value (last_of rounds) x → IsChain s.rows x chain y × (sum_of s.rows chain ≡ value cells x)
    pick (inl e) v =
        let zero : value (round_at rounds 0) d.end ≡ pos 0 = ap (value (round_at rounds 0)) e ∙ r.begun.here in
        (subst (IsChain s.rows x chain) e d.descent.leads, omega (arith, ints, d.descent.sum, zero, v))
    pick (inr ne) v =
        let far : value (round_at rounds 0) d.end ≡ pos (2 ^ 100) = r.begun.there d.end d.descent.inside ne in
        absurd (omega (arith, ints, d.descent.sum, d.descent.near.low, r.few, far, v, low))

reach_falls : (s : System) (y : ℕ) (rounds : List (List Cell)) (cells : List Cell) → IsReach s y rounds cells → value cells y ≤ℤ pos 0
reach_falls s y rounds cells r =
    let down : value (last_of rounds) y ≤ℤ value (round_at rounds 0) y = falls s.rows s.vars rounds r.are 0 (length rounds - 1) y (omega arith) (omega (arith, r.some)) r.inside in
    let last : value cells y ≡ value (last_of rounds) y = ap (λ c. value c y) r.last in
    omega (arith, ints, down, last, r.begun.here)

-- in a system that can be met y stays at zero
reach_zero : (s : System) (y : ℕ) (rounds : List (List Cell)) (cells : List Cell) → IsReach s y rounds cells → IsSolvable s.rows → value cells y ≡ pos 0
reach_zero s y rounds cells r sol =
    let low : value cells y ≤ℤ pos 0 = reach_falls s y rounds cells r in
    let down = ends s.rows s.vars rounds (length rounds - 1) y r.system.rows r.are (omega (arith, r.some)) r.inside in
    let back = descent_reaches s y rounds cells y down.0 r down.1 (omega (arith, ints, low)) in
    let sum : pos 0 ≤ℤ sum_of s.rows down.0 = closed_sum s.rows down.0 y sol back.0 in
    omega (arith, ints, low, sum, back.1)

pub reach_unbounded : (s : System) (y : ℕ) (rounds : List (List Cell)) (cells : List Cell) (x : ℕ) → IsReach s y rounds cells → IsSolvable s.rows → pos (2 ^ 99) ≤ℤ value cells x
    → IsUnbounded s.rows x y
reach_unbounded s y rounds cells x r sol high =
    unbounded s.rows s.vars (length rounds - 1) cells x y r.system.rows r.stable (omega (arith, r.few)) (reach_near s y rounds cells r) sol (reach_falls s y rounds cells r) high

pub greatest_most : (s : System) (x y : ℕ) (rounds : List (List Cell)) (cells : List Cell) (values : List ℤ) (chain : List ℕ) (most : ℤ) → IsReach s y rounds cells → IsSolvable s.rows
    → Descends s.rows s.vars rounds (length rounds - 1) x chain → IsShifted cells values → x < s.vars → value cells x <ℤ pos (2 ^ 99) → most ≡ value cells x → IsMost s x y most values chain
greatest_most s x y rounds cells values chain most r sol d sh h low e =
    let leads = descent_reaches s y rounds cells x chain r d low in
    let long : length cells ≡ s.vars = reach_long s y rounds cells r in
    let all : All (IsRow (length cells)) s.rows = subst (λ n. All (IsRow n) s.rows) (sym long) r.system.rows in
    let zero : value cells y ≡ pos 0 = reach_zero s y rounds cells r sol in
    let at : assigned values x ≡ (value cells x -ℤ value cells 0) = sh.each x (omega (arith, h, long)) in
    let from : assigned values y ≡ (value cells y -ℤ value cells 0) = sh.each y (omega (arith, r.inside, long)) in
    record {
      greatest = chain_is_bound s.rows chain x y most leads.0 (leads.1 ∙ sym e);
      solution = record { long = sh.long ∙ long; meets = shifted_meets s.rows cells values all (omega (arith, long, r.system.some)) r.stable sh };
      reached = omega (arith, ints, at, from, zero, e);
      leads = leads.0;
      sum = leads.1 ∙ sym e;
    }

-- there is no greatest exactly where the answer says so
pub widest_exact : (s : System) (x y : ℕ) (widest : Widest) → IsWidest s x y widest → IsExact s x y widest
widest_exact s x y (Most most values chain) w = (λ e. absurd cc, λ u. let v = u most in let b : (v.0 x -ℤ v.0 y) ≤ℤ most = w.greatest v.0 v.1 in absurd (omega (arith, ints, b, v.2)))
widest_exact s x y Unbounded w = (λ _. w, λ _. refl)
