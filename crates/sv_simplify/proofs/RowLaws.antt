-- The row of a test's negation holds where the test is false.
use Rattle.std.proofs.Common.{◌≡◌, ◌↔◌, ◌∙◌, ap, sym, subst, refl, ℕ, ◌≤◌, ℤ, pos, neg_ℤ, ◌+ℤ◌, ◌-ℤ◌, ◌<ℤ◌, ◌≤ℤ◌, int_lt, ◌&&◌, Bool, true, false, if◌then◌else◌, List, [], ◌∷◌, ◌++◌, All, Option, Some, None, arith}
use Rattle.std.proofs.lemmas.Int.{ints}
use Rattle.std.proofs.lemmas.List.Elements.{All-nil, All-cons, All-push}
use Rattle.std.specs.Option.{option_map}
use Rattle.std.specs.Ordering.{int_eq}
use Rattle.sv_value.specs.declared.values.Val.{Val}
use Rattle.sv_bounds.specs.declared.systems.Diff.{Diff}
use Rattle.sv_bounds.specs.Answers.{above_row, assigned}
use Rattle.sv_bounds.specs.Differences.{Meets, IsCycle}
use Rattle.sv_bounds.proofs.ChainLaws.{no_cycle}
use Rattle.sv_linear.specs.Facts.{HoldsOn, facts_hold, Difference, is_one, is_minus_one, one_term, two_terms, difference_in}
use Rattle.sv_linear.specs.Forms.{Form, number_at, value}
use Rattle.sv_linear.specs.Left.{apart_in, apart, false_row, system_of, Shows, HasCycle, Left, AreLeft, End, Stop, Keep, Drop}
use Rattle.sv_linear.specs.Named.{TermsName}
use Rattle.sv_linear.specs.Tests.{Test, AtMost, InList, Never, Atom}
use Rattle.sv_linear.proofs.FactLaws.{difference_says}
use Rattle.sv_simplify.specs.Laws.{FalseRowsSay, CannotFail, MayFail, AreExact, LeftExactly, IsMostOn, DroppedHold}

-- a form that is a difference has its constant zero
abbrev IsApart : List (ℕ × ℤ) → ℤ → Difference → Type 0
IsApart ts k d = (k ≡ pos 0) × (difference_in ts k ≡ Some d)

zero_plus : (t : ℕ × ℤ) (ts : List (ℕ × ℤ)) (k : ℤ) (d : Difference) (b : Bool) → int_eq k (pos 0) ≡ b → (if b then difference_in (t ∷ ts) k else None) ≡ Some d → IsApart (t ∷ ts) k d
zero_plus t ts k d true e is = (grind (arith, ints, e), is)
zero_plus t ts k d false e is = absurd cc

apart_is : (ts : List (ℕ × ℤ)) (k : ℤ) (d : Difference) → apart_in ts k ≡ Some d → IsApart ts k d
apart_is [] k d e = absurd cc
apart_is (t ∷ ts) k d e = zero_plus t ts k d (int_eq k (pos 0)) refl e

-- what is found has the constant, and no further symbol
record IsWithin (n : ℕ) (k : ℤ) (d : Difference) : Type 0 where
  x : d.x ≤ n
  y : d.y ≤ n
  plus : d.plus ≡ k

one_within : (n s : ℕ) (a b : Bool) (k : ℤ) (d : Difference) → s ≤ n → one_term s a b k ≡ Some d → IsWithin n k d
one_within n s true b k d h e = let same : record { x = s; y = 0; plus = k } ≡ d = cc in subst (IsWithin n k) same (record { x = h; y = omega arith; plus = refl })
one_within n s false true k d h e = let same : record { x = 0; y = s; plus = k } ≡ d = cc in subst (IsWithin n k) same (record { x = omega arith; y = h; plus = refl })
one_within n s false false k d h e = absurd cc

two_within : (n s t : ℕ) (a b : Bool) (k : ℤ) (d : Difference) → s ≤ n → t ≤ n → two_terms s t a b k ≡ Some d → IsWithin n k d
two_within n s t true b k d h g e = let same : record { x = s; y = t; plus = k } ≡ d = cc in subst (IsWithin n k) same (record { x = h; y = g; plus = refl })
two_within n s t false true k d h g e = let same : record { x = t; y = s; plus = k } ≡ d = cc in subst (IsWithin n k) same (record { x = g; y = h; plus = refl })
two_within n s t false false k d h g e = absurd cc

within : (n : ℕ) (ts : List (ℕ × ℤ)) (k : ℤ) (d : Difference) → TermsName n ts → difference_in ts k ≡ Some d → IsWithin n k d
within n [] k d names e = let same : record { x = 0; y = 0; plus = k } ≡ d = cc in subst (IsWithin n k) same (record { x = omega arith; y = omega arith; plus = refl })
within n (t ∷ []) k d names e = one_within n t.0 (is_one t.1) (is_minus_one t.1) k d names.0.1 e
within n (t ∷ u ∷ []) k d names e = two_within n t.0 u.0 (is_one t.1 && is_minus_one u.1) (is_minus_one t.1 && is_one u.1) k d names.0.1 names.1.0.1 e
within n (t ∷ u ∷ v ∷ ts) k d names e = absurd cc

pub apart_within : (n : ℕ) (f : Form) (d : Difference) → TermsName n f.terms → apart f ≡ Some d → (d.x ≤ n) × (d.y ≤ n)
apart_within n f d names e = let w : IsWithin n f.plus d = within n f.terms f.plus d names (apart_is f.terms f.plus d e).1 in (w.x, w.y)

-- the constant of a difference, whichever symbols there are
plus_one : (s : ℕ) (a b : Bool) (k : ℤ) (d : Difference) → one_term s a b k ≡ Some d → d.plus ≡ k
plus_one s true b k d e = let same : record { x = s; y = 0; plus = k } ≡ d = cc in sym (ap (λ d. d.plus) same)
plus_one s false true k d e = let same : record { x = 0; y = s; plus = k } ≡ d = cc in sym (ap (λ d. d.plus) same)
plus_one s false false k d e = absurd cc

plus_two : (s t : ℕ) (a b : Bool) (k : ℤ) (d : Difference) → two_terms s t a b k ≡ Some d → d.plus ≡ k
plus_two s t true b k d e = let same : record { x = s; y = t; plus = k } ≡ d = cc in sym (ap (λ d. d.plus) same)
plus_two s t false true k d e = let same : record { x = t; y = s; plus = k } ≡ d = cc in sym (ap (λ d. d.plus) same)
plus_two s t false false k d e = absurd cc

plus_is : (ts : List (ℕ × ℤ)) (k : ℤ) (d : Difference) → difference_in ts k ≡ Some d → d.plus ≡ k
plus_is [] k d e = let same : record { x = 0; y = 0; plus = k } ≡ d = cc in sym (ap (λ d. d.plus) same)
plus_is (t ∷ []) k d e = plus_one t.0 (is_one t.1) (is_minus_one t.1) k d e
plus_is (t ∷ u ∷ []) k d e = plus_two t.0 u.0 (is_one t.1 && is_minus_one u.1) (is_minus_one t.1 && is_one u.1) k d e
plus_is (t ∷ u ∷ v ∷ ts) k d e = absurd cc

-- the value of a form that is a difference
apart_value : (f : Form) (d : Difference) (tape : List Val) → apart f ≡ Some d → value f tape ≡ (number_at tape d.x -ℤ number_at tape d.y)
apart_value f d tape e =
    let p : IsApart f.terms f.plus d = apart_is f.terms f.plus d e in
    let says : value f tape ≡ ((number_at tape d.x -ℤ number_at tape d.y) +ℤ d.plus) = difference_says f.terms f.plus d tape p.1 in
    let none : d.plus ≡ pos 0 = plus_is f.terms f.plus d p.1 ∙ p.0 in
    omega (arith, ints, says, none)

above_holds : (v x y most : ℤ) → v ≡ (x -ℤ y) → ((y -ℤ x) ≤ℤ neg_ℤ (most +ℤ pos 1)) ↔ (most <ℤ v)
above_holds v x y most e = (λ h. omega (arith, ints, e, h), λ h. omega (arith, ints, e, h))

row_says : (f : Form) (most : ℤ) (row : Diff) (tape : List Val) (o : Option Difference) → apart f ≡ o → option_map (λ d. above_row d.x d.y (most +ℤ pos 1)) o ≡ Some row
    → HoldsOn tape row ↔ (most <ℤ value f tape)
row_says f most row tape None e is = absurd cc
row_says f most row tape (Some d) e is =
    let same : above_row d.x d.y (most +ℤ pos 1) ≡ row = cc in
    subst (λ r. HoldsOn tape r ↔ (most <ℤ value f tape)) same (above_holds (value f tape) (number_at tape d.x) (number_at tape d.y) most (apart_value f d tape e))

pub false_rows_say : FalseRowsSay
false_rows_say f most row tape e = row_says f most row tape (apart f) refl e

-- a tape on which the facts and one more row hold meets them
meets_more : (facts : List Diff) (row : Diff) (tape : List Val) → facts_hold tape facts → HoldsOn tape row → Meets (facts ++ row ∷ []) (number_at tape)
meets_more facts row tape all one = record { zero_first = refl; each = All-push (HoldsOn tape) facts row all one }

not_more : (facts : List Diff) (row : Diff) (cycle : List ℕ) (f : Form) (most : ℤ) (tape : List Val) (b : Bool) → int_lt most (value f tape) ≡ b → false_row (AtMost f most) ≡ Some row
    → facts_hold tape facts → IsCycle (facts ++ row ∷ []) cycle → value f tape ≤ℤ most
not_more facts row cycle f most tape true less e all is =
    let more : most <ℤ value f tape = grind (arith, ints, less) in
    no_cycle (facts ++ row ∷ []) (number_at tape) cycle (meets_more facts row tape all ((false_rows_say f most row tape e).1 more)) is
not_more facts row cycle f most tape false less e all is = grind (arith, ints, less)

held_by : (facts : List Diff) (symbols : ℕ) (cycle : List ℕ) (f : Form) (most : ℤ) (tape : List Val) (o : Option Diff) → false_row (AtMost f most) ≡ o → facts_hold tape facts
    → HasCycle (system_of facts symbols) o cycle → value f tape ≤ℤ most
held_by facts symbols cycle f most tape None e all is = absurd is
held_by facts symbols cycle f most tape (Some row) e all is = not_more facts row cycle f most tape (int_lt most (value f tape)) refl e all is

held : (facts : List Diff) (symbols : ℕ) (cycle : List ℕ) (t : Test) (tape : List Val) → facts_hold tape facts → HasCycle (system_of facts symbols) (false_row t) cycle → IsMostOn tape t
held facts symbols cycle (AtMost f most) tape all is = held_by facts symbols cycle f most tape (false_row (AtMost f most)) refl all is
held facts symbols cycle (InList symbol number) tape all is = absurd is
held facts symbols cycle Never tape all is = absurd is

all_held : (facts : List Diff) (symbols before : ℕ) (atoms : List Atom) (left : Left) (tape : List Val) → AreLeft (system_of facts symbols) before atoms left → facts_hold tape facts
    → All (λ d. IsMostOn tape d.atom.test) left.dropped
all_held facts symbols before atoms left tape (End _) all = All-nil _
all_held facts symbols before atoms left tape (Stop _ _ _ _) all = All-nil _
all_held facts symbols before atoms left tape (Keep _ _ tail k more _ later) all = all_held facts symbols _ tail more tape later all
all_held facts symbols before atoms left tape (Drop _ a tail d more is later) all =
    All-cons (λ d. IsMostOn tape d.atom.test) d more.dropped (subst (λ x. IsMostOn tape x.test) (sym is.same) (held facts symbols d.cycle a.test tape all is.cycle)) (all_held facts symbols _ tail more tape later all)

pub dropped_hold : DroppedHold
dropped_hold facts symbols atoms left tape is all = all_held facts symbols 0 atoms left tape is all

cannot : (facts : List Diff) (symbols : ℕ) (cycle : List ℕ) (o : Option Diff) → HasCycle (system_of facts symbols) o cycle → CannotFail facts o
cannot facts symbols cycle None is = absurd is
cannot facts symbols cycle (Some row) is = λ s. no_cycle (facts ++ row ∷ []) s.0 cycle s.1 is

may : (facts : List Diff) (symbols : ℕ) (o : Option Diff) (shown : Option (List ℤ)) → Shows (system_of facts symbols) o shown → MayFail facts o
may facts symbols None shown is = tt
may facts symbols (Some row) None is = absurd is
may facts symbols (Some row) (Some values) is = (assigned values, is.meets)

exact : (facts : List Diff) (symbols before : ℕ) (atoms : List Atom) (left : Left) → AreLeft (system_of facts symbols) before atoms left → AreExact facts left
exact facts symbols before atoms left (End _) = record { dropped = All-nil _; kept = All-nil _ }
exact facts symbols before atoms left (Stop _ _ _ _) = record { dropped = All-nil _; kept = All-nil _ }
exact facts symbols before atoms left (Keep _ a tail k more is later) =
    let rest : AreExact facts more = exact facts symbols _ tail more later in
    record { dropped = rest.dropped; kept = All-cons (λ k. MayFail facts (false_row k.atom.test)) k more.kept (subst (λ x. MayFail facts (false_row x.test)) (sym is.same) (may facts symbols (false_row a.test) k.shown is.shows)) rest.kept }
exact facts symbols before atoms left (Drop _ a tail d more is later) =
    let rest : AreExact facts more = exact facts symbols _ tail more later in
    record { kept = rest.kept; dropped = All-cons (λ d. CannotFail facts (false_row d.atom.test)) d more.dropped (subst (λ x. CannotFail facts (false_row x.test)) (sym is.same) (cannot facts symbols d.cycle (false_row a.test) is.cycle)) rest.dropped }

pub left_exactly : LeftExactly
left_exactly facts symbols atoms left is = exact facts symbols 0 atoms left is
