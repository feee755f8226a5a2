-- What a comparison of integers says by its truth value: rows `x - y <= most` over the symbols, where its difference is of difference form.
use Rattle.std.specs.Prelude.{ℕ, ℤ, pos, neg_ℤ, ◌-ℤ◌, ◌&&◌, Bool, true, false, if◌then◌else◌, List, [], ◌∷◌, Option, Some, None, All}
use Rattle.std.specs.Ordering.{int_eq}
use Rattle.sv_value.specs.declared.values.Val.{Val}
use Rattle.sv_app.specs.declared.txns.Rel.{Rel}
use Rattle.sv_app.specs.declared.txns.Rel.TheVariants as rels
use Rattle.sv_bounds.specs.declared.systems.Diff.{Diff}
use Rattle.sv_bounds.specs.Differences.{Holds}
use Rattle.sv_linear.specs.Effects.{SymValue, Number, TextIs, TextSymbol}
use Rattle.sv_linear.specs.Forms.{Form, number_at, sub, is_narrow}

-- a fact holds on a tape
abbrev pub HoldsOn : List Val → Diff → Type 0
HoldsOn tape row = Holds (number_at tape) row

abbrev pub facts_hold : List Val → List Diff → Type 0
facts_hold tape facts = All (HoldsOn tape) facts

-- x - y + plus, of symbols of coefficient 1 or of zero
pub record Difference : Type 0 where
  pub x : ℕ
  pub y : ℕ
  pub plus : ℤ

abbrev pub is_one : ℤ → Bool
is_one c = int_eq c (pos 1)

abbrev pub is_minus_one : ℤ → Bool
is_minus_one c = int_eq c (neg_ℤ (pos 1))

abbrev pub one_term : ℕ → Bool → Bool → ℤ → Option Difference
one_term n true minus_one k = Some (record { x = n; y = 0; plus = k })
one_term n false true k = Some (record { x = 0; y = n; plus = k })
one_term n false false k = None

abbrev pub two_terms : ℕ → ℕ → Bool → Bool → ℤ → Option Difference
two_terms n m true second k = Some (record { x = n; y = m; plus = k })
two_terms n m false true k = Some (record { x = m; y = n; plus = k })
two_terms n m false false k = None

abbrev pub difference_in : List (ℕ × ℤ) → ℤ → Option Difference
difference_in [] k = Some (record { x = 0; y = 0; plus = k })
difference_in (t ∷ []) k = one_term t.0 (is_one t.1) (is_minus_one t.1) k
difference_in (t ∷ u ∷ []) k = two_terms t.0 u.0 (is_one t.1 && is_minus_one u.1) (is_minus_one t.1 && is_one u.1) k
difference_in (t ∷ u ∷ v ∷ ts) k = None

-- a narrow form as a difference, where it is one
abbrev pub difference_of : Form → Option Difference
difference_of f = if is_narrow f then difference_in f.terms f.plus else None

-- the difference is below zero by so much, or above zero by so much
abbrev pub at_most : Difference → ℤ → Diff
at_most d n = record { x = d.x; y = d.y; most = neg_ℤ d.plus -ℤ n }

abbrev pub at_least : Difference → ℤ → Diff
at_least d n = record { x = d.y; y = d.x; most = d.plus -ℤ n }

abbrev pub facts_in : Rel → Bool → Difference → List Diff
facts_in rels.Eq true d = at_most d (pos 0) ∷ at_least d (pos 0) ∷ []
facts_in rels.Eq false d = []
facts_in rels.Ne true d = []
facts_in rels.Ne false d = at_most d (pos 0) ∷ at_least d (pos 0) ∷ []
facts_in rels.Lt true d = at_most d (pos 1) ∷ []
facts_in rels.Lt false d = at_least d (pos 0) ∷ []
facts_in rels.Le true d = at_most d (pos 0) ∷ []
facts_in rels.Le false d = at_least d (pos 1) ∷ []
facts_in rels.Gt true d = at_least d (pos 1) ∷ []
facts_in rels.Gt false d = at_most d (pos 0) ∷ []
facts_in rels.Ge true d = at_least d (pos 0) ∷ []
facts_in rels.Ge false d = at_most d (pos 1) ∷ []

abbrev pub facts_by : Rel → Bool → Option Difference → List Diff
facts_by r holds None = []
facts_by r holds (Some d) = facts_in r holds d

-- only comparisons of integers give facts
abbrev pub facts_of : Rel → Bool → SymValue → SymValue → List Diff
facts_of r holds (Number f) (Number g) = facts_by r holds (difference_of (sub f g))
facts_of r holds (Number f) (TextIs t) = []
facts_of r holds (Number f) (TextSymbol n) = []
facts_of r holds (TextIs t) v = []
facts_of r holds (TextSymbol n) v = []
