-- A form of difference form has the value of its difference.
use Rattle.std.proofs.Common.{◌≡◌, ℕ, ℤ, pos, neg_ℤ, ◌+ℤ◌, ◌-ℤ◌, ◌*ℤ◌, ◌≤ℤ◌, int_lt, not, ◌&&◌, List, [], ◌∷◌, Bool, true, false, if◌then◌else◌, Option, Some, None, refl, sym, ap, subst, ◌∙◌, arith}
use Rattle.std.proofs.lemmas.Int.{ints}
use Rattle.std.specs.Ordering.{int_eq}
use Rattle.sv_value.specs.declared.values.Val.{Val}
use Rattle.sv_linear.proofs.Ring.{neg_times}
use Rattle.std.proofs.lemmas.List.Elements.{All-nil, All-cons}
use Rattle.sv_app.specs.declared.txns.Rel.{Rel}
use Rattle.sv_app.specs.declared.txns.Rel.TheVariants as rels
use Rattle.sv_bounds.specs.declared.systems.Diff.{Diff}
use Rattle.sv_linear.specs.Laws.{compares, FactsSay}
use Rattle.sv_linear.proofs.FormLaws.{sub_value}
use Rattle.sv_linear.specs.Facts.{HoldsOn, facts_hold, at_most, at_least, facts_in, facts_by, Difference, is_one, is_minus_one, one_term, two_terms, difference_in, difference_of}
use Rattle.sv_linear.specs.Forms.{Form, number_at, terms_value, value, sub, is_narrow}

abbrev pub Says : List Val → ℤ → Difference → Type 0
Says tape v d = v ≡ (number_at tape d.x -ℤ number_at tape d.y) +ℤ d.plus

same_integer : (a b : ℤ) → int_eq a b ≡ true → a ≡ b
same_integer a b e = grind (arith, ints, e)

once : (x : ℤ) → pos 1 *ℤ x ≡ x
once x = omega (arith, ints)

once_less : (x : ℤ) → neg_ℤ (pos 1) *ℤ x ≡ neg_ℤ x
once_less x = neg_times (pos 1) x ∙ ap neg_ℤ (once x)

plus_term : (c x : ℤ) → int_eq c (pos 1) ≡ true → c *ℤ x ≡ x
plus_term c x e = ap (λ z. z *ℤ x) (same_integer c (pos 1) e) ∙ once x

minus_term : (c x : ℤ) → int_eq c (neg_ℤ (pos 1)) ≡ true → c *ℤ x ≡ neg_ℤ x
minus_term c x e = ap (λ z. z *ℤ x) (same_integer c (neg_ℤ (pos 1)) e) ∙ once_less x

one_says : (n : ℕ) (c k : ℤ) (a b : Bool) (d : Difference) (tape : List Val) → int_eq c (pos 1) ≡ a → int_eq c (neg_ℤ (pos 1)) ≡ b → one_term n a b k ≡ Some d → Says tape (k +ℤ ((c *ℤ number_at tape n) +ℤ pos 0)) d
one_says n c k true b d tape p q e =
    let t : c *ℤ number_at tape n ≡ number_at tape n = plus_term c (number_at tape n) p in
    let same : record { x = n; y = 0; plus = k } ≡ d = cc in
    subst (Says tape (k +ℤ ((c *ℤ number_at tape n) +ℤ pos 0))) same (ap (λ z. k +ℤ (z +ℤ pos 0)) t ∙ turned k (number_at tape n))
  where
    turned : (k x : ℤ) → k +ℤ (x +ℤ pos 0) ≡ (x -ℤ pos 0) +ℤ k
    turned k x = omega (arith, ints)
one_says n c k false true d tape p q e =
    let t : c *ℤ number_at tape n ≡ neg_ℤ (number_at tape n) = minus_term c (number_at tape n) q in
    let same : record { x = 0; y = n; plus = k } ≡ d = cc in
    subst (Says tape (k +ℤ ((c *ℤ number_at tape n) +ℤ pos 0))) same (ap (λ z. k +ℤ (z +ℤ pos 0)) t ∙ turned k (number_at tape n))
  where
    turned : (k x : ℤ) → k +ℤ (neg_ℤ x +ℤ pos 0) ≡ (pos 0 -ℤ x) +ℤ k
    turned k x = omega (arith, ints)
one_says n c k false false d tape p q e = absurd cc

and_left : (a b : Bool) → (a && b) ≡ true → a ≡ true
and_left true b e = refl
and_left false b e = absurd cc

and_right : (a b : Bool) → (a && b) ≡ true → b ≡ true
and_right true b e = e
and_right false b e = absurd cc

two_say : (n m : ℕ) (c e k : ℤ) (a b : Bool) (d : Difference) (tape : List Val) → (is_one c && is_minus_one e) ≡ a → (is_minus_one c && is_one e) ≡ b → two_terms n m a b k ≡ Some d
    → Says tape (k +ℤ ((c *ℤ number_at tape n) +ℤ ((e *ℤ number_at tape m) +ℤ pos 0))) d
two_say n m c e k true b d tape p q is =
    let t : c *ℤ number_at tape n ≡ number_at tape n = plus_term c (number_at tape n) (and_left (is_one c) (is_minus_one e) p) in
    let u : e *ℤ number_at tape m ≡ neg_ℤ (number_at tape m) = minus_term e (number_at tape m) (and_right (is_one c) (is_minus_one e) p) in
    let same : record { x = n; y = m; plus = k } ≡ d = cc in
    subst (Says tape (k +ℤ ((c *ℤ number_at tape n) +ℤ ((e *ℤ number_at tape m) +ℤ pos 0)))) same ((λ i. k +ℤ (t i +ℤ (u i +ℤ pos 0))) ∙ turned k (number_at tape n) (number_at tape m))
  where
    turned : (k x y : ℤ) → k +ℤ (x +ℤ (neg_ℤ y +ℤ pos 0)) ≡ (x -ℤ y) +ℤ k
    turned k x y = omega (arith, ints)
two_say n m c e k false true d tape p q is =
    let t : c *ℤ number_at tape n ≡ neg_ℤ (number_at tape n) = minus_term c (number_at tape n) (and_left (is_minus_one c) (is_one e) q) in
    let u : e *ℤ number_at tape m ≡ number_at tape m = plus_term e (number_at tape m) (and_right (is_minus_one c) (is_one e) q) in
    let same : record { x = m; y = n; plus = k } ≡ d = cc in
    subst (Says tape (k +ℤ ((c *ℤ number_at tape n) +ℤ ((e *ℤ number_at tape m) +ℤ pos 0)))) same ((λ i. k +ℤ (t i +ℤ (u i +ℤ pos 0))) ∙ turned k (number_at tape n) (number_at tape m))
  where
    turned : (k x y : ℤ) → k +ℤ (neg_ℤ x +ℤ (y +ℤ pos 0)) ≡ (y -ℤ x) +ℤ k
    turned k x y = omega (arith, ints)
two_say n m c e k false false d tape p q is = absurd cc

pub difference_says : (ts : List (ℕ × ℤ)) (k : ℤ) (d : Difference) (tape : List Val) → difference_in ts k ≡ Some d → Says tape (k +ℤ terms_value ts tape) d
difference_says [] k d tape e =
    let same : record { x = 0; y = 0; plus = k } ≡ d = cc in
    subst (Says tape (k +ℤ pos 0)) same (turned k)
  where
    turned : (k : ℤ) → k +ℤ pos 0 ≡ (pos 0 -ℤ pos 0) +ℤ k
    turned k = omega (arith, ints)
difference_says (t ∷ []) k d tape e = one_says t.0 t.1 k (is_one t.1) (is_minus_one t.1) d tape refl refl e
difference_says (t ∷ u ∷ []) k d tape e = two_say t.0 u.0 t.1 u.1 k (is_one t.1 && is_minus_one u.1) (is_minus_one t.1 && is_one u.1) d tape refl refl e
difference_says (t ∷ u ∷ v ∷ ts) k d tape e = absurd cc

pub form_says : (f : Form) (d : Difference) (tape : List Val) → difference_of f ≡ Some d → Says tape (value f tape) d
form_says f d tape e = by_width (is_narrow f) e
  where
    by_width : (b : Bool) → (if b then difference_in f.terms f.plus else None) ≡ Some d → Says tape (value f tape) d
    by_width true e = difference_says f.terms f.plus d tape e
    by_width false e = absurd cc

one_row : (tape : List Val) (a : Diff) → HoldsOn tape a → facts_hold tape (a ∷ [])
one_row tape a p = All-cons (HoldsOn tape) a [] p (All-nil (HoldsOn tape))

two_rows : (tape : List Val) (a b : Diff) → HoldsOn tape a → HoldsOn tape b → facts_hold tape (a ∷ b ∷ [])
two_rows tape a b p q = All-cons (HoldsOn tape) a (b ∷ []) p (one_row tape b q)

most_says : (m n : ℤ) (d : Difference) (tape : List Val) → Says tape (m -ℤ n) d → (k : ℤ) → (m +ℤ k) ≤ℤ n → HoldsOn tape (at_most d k)
most_says m n d tape says k h = omega (arith, ints, says, h)

least_says : (m n : ℤ) (d : Difference) (tape : List Val) → Says tape (m -ℤ n) d → (k : ℤ) → (n +ℤ k) ≤ℤ m → HoldsOn tape (at_least d k)
least_says m n d tape says k h = omega (arith, ints, says, h)

level : (m n : ℤ) → int_eq m n ≡ true → (m +ℤ pos 0) ≤ℤ n
level m n e = grind (arith, ints, e)

level_back : (m n : ℤ) → int_eq m n ≡ true → (n +ℤ pos 0) ≤ℤ m
level_back m n e = grind (arith, ints, e)

below : (m n : ℤ) → int_lt m n ≡ true → (m +ℤ pos 1) ≤ℤ n
below m n e = grind (arith, ints, e)

not_below : (m n : ℤ) → int_lt m n ≡ false → (n +ℤ pos 0) ≤ℤ m
not_below m n e = grind (arith, ints, e)

turn_true : (b : Bool) → not b ≡ true → b ≡ false
turn_true true e = absurd cc
turn_true false e = refl

turn_false : (b : Bool) → not b ≡ false → b ≡ true
turn_false true e = refl
turn_false false e = absurd cc

facts_true : (m n : ℤ) (d : Difference) (tape : List Val) → Says tape (m -ℤ n) d → (r : Rel) (h : Bool) → compares r m n ≡ h → facts_hold tape (facts_in r h d)
facts_true m n d tape says rels.Eq true e = two_rows tape (at_most d (pos 0)) (at_least d (pos 0)) (most_says m n d tape says (pos 0) (level m n e)) (least_says m n d tape says (pos 0) (level_back m n e))
facts_true m n d tape says rels.Eq false e = All-nil (HoldsOn tape)
facts_true m n d tape says rels.Ne true e = All-nil (HoldsOn tape)
facts_true m n d tape says rels.Ne false e =
    let q : int_eq m n ≡ true = turn_false (int_eq m n) e in
    two_rows tape (at_most d (pos 0)) (at_least d (pos 0)) (most_says m n d tape says (pos 0) (level m n q)) (least_says m n d tape says (pos 0) (level_back m n q))
facts_true m n d tape says rels.Lt true e = one_row tape (at_most d (pos 1)) (most_says m n d tape says (pos 1) (below m n e))
facts_true m n d tape says rels.Lt false e = one_row tape (at_least d (pos 0)) (least_says m n d tape says (pos 0) (not_below m n e))
facts_true m n d tape says rels.Le true e = one_row tape (at_most d (pos 0)) (most_says m n d tape says (pos 0) (not_below n m (turn_true (int_lt n m) e)))
facts_true m n d tape says rels.Le false e = one_row tape (at_least d (pos 1)) (least_says m n d tape says (pos 1) (below n m (turn_false (int_lt n m) e)))
facts_true m n d tape says rels.Gt true e = one_row tape (at_least d (pos 1)) (least_says m n d tape says (pos 1) (below n m e))
facts_true m n d tape says rels.Gt false e = one_row tape (at_most d (pos 0)) (most_says m n d tape says (pos 0) (not_below n m e))
facts_true m n d tape says rels.Ge true e = one_row tape (at_least d (pos 0)) (least_says m n d tape says (pos 0) (not_below m n (turn_true (int_lt m n) e)))
facts_true m n d tape says rels.Ge false e = one_row tape (at_most d (pos 1)) (most_says m n d tape says (pos 1) (below m n (turn_false (int_lt m n) e)))

pub facts_say : FactsSay
facts_say r f g tape = by_form (difference_of (sub f g)) refl
  where
    by_form : (o : Option Difference) → difference_of (sub f g) ≡ o → facts_hold tape (facts_by r (compares r (value f tape) (value g tape)) o)
    by_form None e = All-nil (HoldsOn tape)
    by_form (Some d) e = facts_true (value f tape) (value g tape) d tape (sym (sub_value f g tape) ∙ form_says (sub f g) d tape e) r (compares r (value f tape) (value g tape)) refl
