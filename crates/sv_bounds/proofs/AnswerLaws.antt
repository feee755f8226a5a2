-- From rounds to answers.
use Rattle.std.proofs.Common.{◌≡◌, ℕ, ◌+◌, ◌-◌, ◌^◌, ◌<◌, ◌≤◌, List, [], ◌∷◌, ◌++◌, length, All, ℤ, pos, neg_ℤ, ◌-ℤ◌, ◌≤ℤ◌, refl, sym, ap, subst, ◌∙◌, below_more, arith}
use Rattle.std.specs.Global.{Vec}
use Rattle.std.proofs.lemmas.Int.{ints}
use Rattle.std.proofs.lemmas.List.{get_or_append_left, get_or_push, length_push}
use Rattle.std.proofs.lemmas.List.Elements.{All-from_get_or, All-push}
use Rattle.sv_bounds.specs.declared.systems.Diff.{Diff}
use Rattle.sv_bounds.specs.declared.systems.System.{System}
use Rattle.sv_bounds.specs.declared.systems.Answer.{Answer}
use Rattle.sv_bounds.specs.declared.systems.Answer.TheVariants.{Values, Cycle}
use Rattle.sv_bounds.specs.declared.rounds.Cell.{Cell}
use Rattle.sv_bounds.specs.declared.settling.Settled.{Settled}
use Rattle.sv_bounds.specs.declared.settling.Settled.TheVariants.{Stable, Cyclic}
use Rattle.sv_bounds.specs.Differences.{no_row, row_at, Within, IsRow, Holds, Meets, IsCycle}
use Rattle.sv_bounds.specs.Answers.{IsSystem, with_row, above_row, assigned, IsSolution, IsAnswer, IsDecided}
use Rattle.sv_bounds.specs.Rounds.{value, asked, lists, IsStable}
use Rattle.sv_bounds.specs.Settling.{last_of, IsSettled, IsStableFrom, IsShifted}
use Rattle.sv_bounds.proofs.ChainLaws.{row_in, no_cycle}
use Rattle.sv_bounds.proofs.FallLaws.{near_at, near_within}

pub shifted_more : (cells : List Cell) (values longer : List ℤ) (x : ℕ) (v : ℤ) → length values ≡ x → ((k : ℕ) → k < x → assigned values k ≡ (value cells k -ℤ value cells 0))
    → longer ≡ values ++ v ∷ [] → v ≡ (value cells x -ℤ value cells 0) → (k : ℕ) → k < x + 1 → assigned longer k ≡ (value cells k -ℤ value cells 0)
shifted_more cells values longer x v long each more e =
    below_more (λ k. assigned longer k ≡ (value cells k -ℤ value cells 0)) x
    (λ k l. ap (λ l. assigned l k) more ∙ get_or_append_left values (v ∷ []) (pos 0) k (omega (arith, l, long)) ∙ each k l)
    (ap (λ l. assigned l x) more ∙ get_or_push values v (pos 0) x long ∙ e)

pub stable_near : (rows : List Diff) (start : List Cell) (rounds : List (List Cell)) → All (IsRow (length start)) rows → IsStableFrom rows start rounds → length start ≤ 65
    → (cells : List Cell) → cells ≡ last_of rounds → (z : ℕ) → Within (2 ^ 101) (value cells z)
stable_near rows start rounds all s few cells e z =
    subst (λ c. Within (2 ^ 101) (value c z)) (sym e)
    (near_within (length rounds - 1) (value (last_of rounds) z) (omega (arith, s.many, few)) (near_at rows (length start) rounds all s.are (length rounds - 1) (omega (arith, s.some)) z))

pub last_long : (rows : List Diff) (start : List Cell) (rounds : List (List Cell)) (cells : List Cell) → IsStableFrom rows start rounds → cells ≡ last_of rounds → length cells ≡ length start
last_long rows start rounds cells s e = ap length e ∙ s.are.long (length rounds - 1) (omega (arith, s.some))

-- the last round's values, less that of variable zero, meet the rows
pub shifted_meets : (rows : List Diff) (cells : List Cell) (values : List ℤ) → All (IsRow (length cells)) rows → 1 ≤ length cells → IsStable rows cells → IsShifted cells values → Meets rows (assigned values)
shifted_meets rows cells values all some stable sh = record {
  zero_first = let e : assigned values 0 ≡ (value cells 0 -ℤ value cells 0) = sh.each 0 (omega (arith, some)) in omega (arith, ints, e);
  each = All-from_get_or (Holds (assigned values)) rows no_row (λ i l.
      let row : IsRow (length cells) (row_at rows i) = row_in (length cells) rows i all l in
      let a : assigned values (row_at rows i).x ≡ (value cells (row_at rows i).x -ℤ value cells 0) = sh.each (row_at rows i).x row.x in
      let b : assigned values (row_at rows i).y ≡ (value cells (row_at rows i).y -ℤ value cells 0) = sh.each (row_at rows i).y row.y in
      let m : value cells (row_at rows i).x ≤ℤ asked rows i cells = stable i l in
      omega (arith, ints, a, b, m));
}

pub solved : (s : System) (start cells : List Cell) (rounds : List (List Cell)) (values : List ℤ) → IsSystem s → length start ≡ s.vars → IsStableFrom s.rows start rounds → cells ≡ last_of rounds
    → IsShifted cells values → IsSolution s values
solved s start cells rounds values is long st e sh =
    let len : length cells ≡ s.vars = last_long s.rows start rounds cells st e ∙ long in
    let all : All (IsRow (length cells)) s.rows = subst (λ n. All (IsRow n) s.rows) (sym len) is.rows in
    record {
      long = sh.long ∙ len;
      meets = shifted_meets s.rows cells values all (omega (arith, len, is.some)) (subst (IsStable s.rows) (sym e) st.stable) sh;
    }

-- values come exactly where there are some
pub answer_decides : (s : System) (answer : Answer) → IsAnswer s answer → IsDecided s answer
answer_decides s (Values values) a = (λ _. (assigned values, a.meets), λ _. tt)
answer_decides s (Cycle chain) a = (λ none. absurd none, λ some. no_cycle s.rows some.0 chain some.1 a)

pub rows_over : (s : System) (start : List Cell) → IsSystem s → length start ≡ s.vars → All (IsRow (length start)) s.rows
rows_over s start is long = subst (λ n. All (IsRow n) s.rows) (sym long) is.rows

pub settled_stable : (rows held : List Diff) (start : List Cell) (s : Settled) (rounds : Vec (Vec Cell)) → IsSettled held start s → s ≡ Stable rounds → held ≡ rows → IsStableFrom rows start (lists rounds.items)
settled_stable rows held start s rounds is e same = subst (λ r. IsStableFrom r start (lists rounds.items)) same (subst (IsSettled held start) e is)

pub settled_cycle : (rows held : List Diff) (start : List Cell) (s : Settled) (chain : Vec ℕ) → IsSettled held start s → s ≡ Cyclic chain → held ≡ rows → IsCycle rows chain.items
settled_cycle rows held start s chain is e same = subst (λ r. IsCycle r chain.items) same (subst (IsSettled held start) e is)

pub negated : (d m : ℤ) → Within (2 ^ 70) d → m ≡ neg_ℤ d → Within (2 ^ 70) m
negated d m w e = record { low = omega (arith, ints, w.high, e); high = omega (arith, ints, w.low, e) }

-- a system with one more row
pub system_with : (s : System) (row : Diff) → IsSystem s → length s.rows ≤ 4095 → IsRow s.vars row → IsSystem (with_row s row)
system_with s row is room r = record {
  some = is.some;
  few = is.few;
  many = omega (arith, length_push s.rows row, room);
  rows = All-push (IsRow s.vars) s.rows row is.rows r;
}

pub system_above : (s : System) (x y : ℕ) (d : ℤ) → IsSystem s → length s.rows ≤ 4095 → x < s.vars → y < s.vars → Within (2 ^ 70) d → IsSystem (with_row s (above_row x y d))
system_above s x y d is room lx ly w = system_with s (above_row x y d) is room (record { x = ly; y = lx; most = negated d (neg_ℤ d) w refl })
