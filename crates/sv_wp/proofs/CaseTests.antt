-- The tests of a check are all met exactly where no case of it fails.
use Rattle.std.proofs.Common.{◌≡◌, ℕ, Bool, true, false, List, [], ◌∷◌, ◌++◌, Option, Some, None, ℤ, pos, ◌+ℤ◌, ◌-ℤ◌, ◌≤ℤ◌, refl, sym, subst, arith, All}
use Rattle.std.specs.Prelude.{int_le, if◌then◌else◌}
use Rattle.std.specs.List.{flat_map}
use Rattle.std.proofs.lemmas.Int.{ints}
use Rattle.std.proofs.lemmas.List.Concat.{flat_map-append}
use Rattle.std.proofs.lemmas.List.Elements.{All-nil, All-cons, All-head, All-tail, All-append}
use Rattle.sv_value.specs.declared.values.Val.{Val}
use Rattle.sv_app.specs.Schema.{Declaration}
use Rattle.sv_linear.specs.Atoms.{Case, case_if, terms_at_most, tests_by}
use Rattle.sv_linear.specs.Forms.{Form, value, terms_value, sub}
use Rattle.sv_linear.specs.Tests.{Test, AtMost, Never}
use Rattle.sv_linear.proofs.FormLaws.{sub_value}
use Rattle.sv_threat.specs.Cases.{IsAtMost}
use Rattle.sv_wp.specs.Gives.{IsMetOn}

-- ---- one case

empty_left : (n most : ℤ) (b : Bool) → int_le (pos 0) (most -ℤ n) ≡ b → (b ≡ true → (n +ℤ pos 0) ≤ℤ most) × ((n +ℤ pos 0) ≤ℤ most → b ≡ true)
empty_left n most true e = (λ _. grind (arith, ints, e), λ _. refl)
empty_left n most false e = (λ h. absurd cc, λ h. absurd (grind (arith, ints, e, h)))

module _ (schema : List Declaration) (tape : List Val) where
  abbrev pub AllMet : List Test → Type 0
  AllMet tests = All (IsMetOn schema tape) tests

  one_met : (t : Test) → IsMetOn schema tape t → AllMet (t ∷ [])
  one_met t h = All-cons (IsMetOn schema tape) t [] h (All-nil (IsMetOn schema tape))

  terms_met : (ts : List (ℕ × ℤ)) (n most : ℤ) → AllMet (terms_at_most ts (most -ℤ n)) → (n +ℤ terms_value ts tape) ≤ℤ most
  terms_met [] n most h = by_room (int_le (pos 0) (most -ℤ n)) refl h
    where
      by_room : (b : Bool) → int_le (pos 0) (most -ℤ n) ≡ b → AllMet (if b then [] else Never ∷ []) → (n +ℤ pos 0) ≤ℤ most
      by_room true e h = (empty_left n most true e).0 refl
      by_room false e h = absurd (All-head (IsMetOn schema tape) Never [] h)
  terms_met (t ∷ ts) n most h = moved_back n most (terms_value (t ∷ ts) tape) (All-head (IsMetOn schema tape) (AtMost (record { terms = t ∷ ts; plus = pos 0 }) (most -ℤ n)) [] h)
    where
      moved_back : (n most v : ℤ) → (pos 0 +ℤ v) ≤ℤ (most -ℤ n) → (n +ℤ v) ≤ℤ most
      moved_back n most v h = omega (arith, ints, h)

  met_terms : (ts : List (ℕ × ℤ)) (n most : ℤ) → (n +ℤ terms_value ts tape) ≤ℤ most → AllMet (terms_at_most ts (most -ℤ n))
  met_terms [] n most h = by_room (int_le (pos 0) (most -ℤ n)) refl
    where
      by_room : (b : Bool) → int_le (pos 0) (most -ℤ n) ≡ b → AllMet (if b then [] else Never ∷ [])
      by_room true e = All-nil (IsMetOn schema tape)
      by_room false e = let p : false ≡ true = (empty_left n most false e).1 h in absurd cc
  met_terms (t ∷ ts) n most h = one_met (AtMost (record { terms = t ∷ ts; plus = pos 0 }) (most -ℤ n)) (moved n most (terms_value (t ∷ ts) tape) h)
    where
      moved : (n most v : ℤ) → (n +ℤ v) ≤ℤ most → (pos 0 +ℤ v) ≤ℤ (most -ℤ n)
      moved n most v h = omega (arith, ints, h)

  pub tests_met : (f : Form) (most : Option ℤ) → AllMet (tests_by f most) → IsAtMost (value f tape) most
  tests_met f None h = absurd (All-head (IsMetOn schema tape) Never [] h)
  tests_met f (Some most) h = terms_met f.terms f.plus most h

  pub met_tests : (f : Form) (most : Option ℤ) → IsAtMost (value f tape) most → AllMet (tests_by f most)
  met_tests f None h = absurd h
  met_tests f (Some most) h = met_terms f.terms f.plus most h

  -- ---- a list of cases

  abbrev pub tests_of : List Case → List Test
  tests_of qs = flat_map (λ q. tests_by q.left q.most) qs

  left_met : (xs ys : List Test) → AllMet (xs ++ ys) → AllMet xs
  left_met [] ys h = All-nil (IsMetOn schema tape)
  left_met (x ∷ xs) ys h = All-cons (IsMetOn schema tape) x xs (All-head (IsMetOn schema tape) x (xs ++ ys) h) (left_met xs ys (All-tail (IsMetOn schema tape) x (xs ++ ys) h))

  right_met : (xs ys : List Test) → AllMet (xs ++ ys) → AllMet ys
  right_met [] ys h = h
  right_met (x ∷ xs) ys h = right_met xs ys (All-tail (IsMetOn schema tape) x (xs ++ ys) h)

  pub first_cases : (qs rs : List Case) → AllMet (tests_of (qs ++ rs)) → AllMet (tests_of qs)
  first_cases qs rs h = left_met (tests_of qs) (tests_of rs) (subst AllMet (flat_map-append (λ q. tests_by q.left q.most) qs rs) h)

  pub later_cases : (qs rs : List Case) → AllMet (tests_of (qs ++ rs)) → AllMet (tests_of rs)
  later_cases qs rs h = right_met (tests_of qs) (tests_of rs) (subst AllMet (flat_map-append (λ q. tests_by q.left q.most) qs rs) h)

  pub both_cases : (qs rs : List Case) → AllMet (tests_of qs) → AllMet (tests_of rs) → AllMet (tests_of (qs ++ rs))
  both_cases qs rs h k = subst AllMet (sym (flat_map-append (λ q. tests_by q.left q.most) qs rs)) (All-append (IsMetOn schema tape) (tests_of qs) (tests_of rs) h k)

  pub case_met : (b : Bool) (f g : Form) (most : Option ℤ) → AllMet (tests_of (case_if b f g most)) → b ≡ true → IsAtMost (value f tape -ℤ value g tape) most
  case_met true f g most h e = subst (λ v. IsAtMost v most) (sub_value f g tape) (tests_met (sub f g) most (left_met (tests_by (sub f g) most) [] h))
  case_met false f g most h e = absurd cc

  pub met_case : (b : Bool) (f g : Form) (most : Option ℤ) → (b ≡ true → IsAtMost (value f tape -ℤ value g tape) most) → AllMet (tests_of (case_if b f g most))
  met_case true f g most h = All-append (IsMetOn schema tape) (tests_by (sub f g) most) [] (met_tests (sub f g) most (subst (λ v. IsAtMost v most) (sym (sub_value f g tape)) (h refl))) (All-nil (IsMetOn schema tape))
  met_case false f g most h = All-nil (IsMetOn schema tape)
