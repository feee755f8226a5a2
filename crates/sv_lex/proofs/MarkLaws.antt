-- The longest mark that bytes begin with.
use Rattle.std.proofs.Common.{◌≡◌, ℕ, ◌+◌, ◌≤◌, Bool, true, false, List, [], ◌∷◌, ◌++◌, length, drop, Some, refl, ap, subst, arith, nat_eq, cond, length-append}
use Rattle.std.specs.List.{find, starts_with}
use Rattle.std.proofs.lemmas.Bool.Decides.{Decides-eqb}
use Rattle.std.proofs.lemmas.Slice.Eq.{starts_is}
use Rattle.sv_lex.specs.declared.marks.Mark.{Mark}
use Rattle.sv_lex.specs.declared.marks.Mark.TheVariants.{LeftParen}
use Rattle.sv_lex.specs.Marks.{mark_bytes, marks, longest_mark}

pub find_passes : {X : Type 0} (p : X → Bool) (xs : List X) (found : X) → find p xs ≡ Some found → p found ≡ true
find_passes p [] found e = absurd cc
find_passes {X} p (x ∷ xs) found e = by_test (p x) refl e (find_passes p xs found)
  where
    by_test : (b : Bool) → p x ≡ b → cond b (Some x) (find p xs) ≡ Some found → (find p xs ≡ Some found → p found ≡ true) → p found ≡ true
    by_test true t e more = let same : x ≡ found = cc in subst (λ y. p y ≡ true) same t
    by_test false t e more = more e

pub mark_some : (mark : Mark) → 1 ≤ length (mark_bytes mark)
mark_some LeftParen = omega arith
mark_some _ = omega arith

-- the bytes begin with the mark's
pub mark_stands : (bytes : List ℕ) (mark : Mark) → longest_mark bytes ≡ Some mark → bytes ≡ mark_bytes mark ++ drop (length (mark_bytes mark)) bytes
unfolding longest_mark
mark_stands bytes mark e =
    let begins : starts_with nat_eq bytes (mark_bytes mark) ≡ true = find_passes (λ m. starts_with nat_eq bytes (mark_bytes m)) marks mark e in
    (starts_is Decides-eqb bytes (mark_bytes mark) (starts_with nat_eq bytes (mark_bytes mark)) refl).0 begins

pub mark_fits : (bytes : List ℕ) (mark : Mark) → longest_mark bytes ≡ Some mark → length (mark_bytes mark) ≤ length bytes
mark_fits bytes mark e =
    let long : length bytes ≡ length (mark_bytes mark ++ drop (length (mark_bytes mark)) bytes) = ap length (mark_stands bytes mark e) in
    let parts : length (mark_bytes mark ++ drop (length (mark_bytes mark)) bytes) ≡ length (mark_bytes mark) + length (drop (length (mark_bytes mark)) bytes) = length-append (mark_bytes mark) (drop (length (mark_bytes mark)) bytes) in
    omega (arith, long, parts)
