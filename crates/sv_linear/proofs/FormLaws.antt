-- The value of a form.
use Rattle.std.proofs.Common.{◌≡◌, ℕ, ℤ, pos, neg_ℤ, ◌+ℤ◌, ◌-ℤ◌, ◌*ℤ◌, List, [], ◌∷◌, refl, sym, ap, ◌∙◌, arith}
use Rattle.std.proofs.lemmas.Int.{ints}
use Rattle.std.proofs.Math.IntN.{*ℤ-zero}
use Rattle.std.proofs.lemmas.Bool.Decides.{nat_tests}
use Rattle.sv_value.specs.declared.values.Val.{Val}
use Rattle.sv_linear.proofs.Ring.{distributes, distributes_left, neg_times, times_assoc}
use Rattle.sv_linear.specs.Forms.{Form, number_at, terms_value, value, with_term, put, put_all, add, sub, scale, scaled_terms, minus, negated_terms}

assoc : (a b r : ℤ) → (a +ℤ b) +ℤ r ≡ a +ℤ (b +ℤ r)
assoc a b r = omega (arith, ints)

dist : (c d x r : ℤ) → ((c +ℤ d) *ℤ x) +ℤ r ≡ (c *ℤ x) +ℤ ((d *ℤ x) +ℤ r)
dist c d x r = ap (λ z. z +ℤ r) (distributes c d x) ∙ assoc (c *ℤ x) (d *ℤ x) r

zero_times : (x r : ℤ) → r ≡ (pos 0 *ℤ x) +ℤ r
zero_times x r = grind (arith, ints)

swap : (a b r : ℤ) → a +ℤ (b +ℤ r) ≡ b +ℤ (a +ℤ r)
swap a b r = omega (arith, ints)

with_term_value : (k : ℕ) (c : ℤ) (ts : List (ℕ × ℤ)) (tape : List Val) → terms_value (with_term k c ts) tape ≡ (c *ℤ number_at tape k) +ℤ terms_value ts tape
with_term_value k c ts tape = grind (arith, ints, zero_times)

put_value : (k : ℕ) (c : ℤ) (ts : List (ℕ × ℤ)) (tape : List Val) → terms_value (put k c ts) tape ≡ (c *ℤ number_at tape k) +ℤ terms_value ts tape
put_value k c [] tape = with_term_value k c [] tape
put_value k c (t ∷ ts) tape = grind (arith, nat_tests, with_term_value, put_value k c ts tape, dist, swap)

put_all_value : (ts us : List (ℕ × ℤ)) (tape : List Val) → terms_value (put_all ts us) tape ≡ terms_value ts tape +ℤ terms_value us tape
put_all_value [] us tape = omega (arith, ints)
put_all_value (t ∷ ts) us tape = put_value t.0 t.1 (put_all ts us) tape ∙ ap (λ z. (t.1 *ℤ number_at tape t.0) +ℤ z) (put_all_value ts us tape) ∙ sym (assoc (t.1 *ℤ number_at tape t.0) (terms_value ts tape) (terms_value us tape))

four : (a b c d : ℤ) → (a +ℤ b) +ℤ (c +ℤ d) ≡ (a +ℤ c) +ℤ (b +ℤ d)
four a b c d = omega (arith, ints)

pub add_value : (f g : Form) (tape : List Val) → value (add f g) tape ≡ value f tape +ℤ value g tape
add_value f g tape = ap (λ z. (f.plus +ℤ g.plus) +ℤ z) (put_all_value f.terms g.terms tape) ∙ four f.plus g.plus (terms_value f.terms tape) (terms_value g.terms tape)

back : (a b : ℤ) → neg_ℤ a +ℤ neg_ℤ b ≡ neg_ℤ (a +ℤ b)
back a b = omega (arith, ints)

less : (c x r s : ℤ) → s ≡ neg_ℤ r → (neg_ℤ c *ℤ x) +ℤ s ≡ neg_ℤ ((c *ℤ x) +ℤ r)
less c x r s h = ap (λ z. (neg_ℤ c *ℤ x) +ℤ z) h ∙ ap (λ z. z +ℤ neg_ℤ r) (neg_times c x) ∙ back (c *ℤ x) r

negated_value : (ts : List (ℕ × ℤ)) (tape : List Val) → terms_value (negated_terms ts) tape ≡ neg_ℤ (terms_value ts tape)
negated_value [] tape = refl
negated_value (t ∷ ts) tape = less t.1 (number_at tape t.0) (terms_value ts tape) (terms_value (negated_terms ts) tape) (negated_value ts tape)

pub minus_value : (f : Form) (tape : List Val) → value (minus f) tape ≡ neg_ℤ (value f tape)
minus_value f tape = ap (λ z. neg_ℤ f.plus +ℤ z) (negated_value f.terms tape) ∙ back f.plus (terms_value f.terms tape)

pub sub_value : (f g : Form) (tape : List Val) → value (sub f g) tape ≡ value f tape -ℤ value g tape
sub_value f g tape = add_value f (minus g) tape ∙ ap (λ z. value f tape +ℤ z) (minus_value g tape) ∙ as_sum (value f tape) (value g tape)
  where
    as_sum : (a b : ℤ) → a +ℤ neg_ℤ b ≡ a -ℤ b
    as_sum a b = omega (arith, ints)

scaled_value : (c : ℤ) (ts : List (ℕ × ℤ)) (tape : List Val) → terms_value (scaled_terms c ts) tape ≡ c *ℤ terms_value ts tape
scaled_value c [] tape = sym (*ℤ-zero c)
scaled_value c (t ∷ ts) tape =
    with_term_value t.0 (c *ℤ t.1) (scaled_terms c ts) tape
    ∙ ap (λ z. ((c *ℤ t.1) *ℤ number_at tape t.0) +ℤ z) (scaled_value c ts tape)
    ∙ ap (λ z. z +ℤ (c *ℤ terms_value ts tape)) (times_assoc c t.1 (number_at tape t.0))
    ∙ sym (distributes_left c (t.1 *ℤ number_at tape t.0) (terms_value ts tape))

pub scale_value : (c : ℤ) (f : Form) (tape : List Val) → value (scale c f) tape ≡ c *ℤ value f tape
scale_value c f tape = ap (λ z. (c *ℤ f.plus) +ℤ z) (scaled_value c f.terms tape) ∙ sym (distributes_left c f.plus (terms_value f.terms tape))
