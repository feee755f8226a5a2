-- The forms that the calls make.
use Rattle.std.proofs.Common.{◌≡◌, ℕ, ℤ, ◌+ℤ◌, ◌-ℤ◌, ◌*ℤ◌, neg_ℤ, List, [], Bool, true, false, sym, subst, ◌∙◌, arith}
use Rattle.std.proofs.lemmas.Int.{ints}
use Rattle.sv_linear.specs.Forms.{Form, put_all, scaled_terms, add, sub, scale, is_ordered, is_word, are_words, is_form}
use Rattle.sv_linear.specs.Sums.{ArePut, turned}
use Rattle.sv_linear.proofs.OrderLaws.{kept_parts, kept_whole, all_ordered, turned_ordered, scaled_ordered}

-- terms that were put, and a constant
pub made : (ts terms : List (ℕ × ℤ)) (n : ℤ) → ArePut [] ts terms → is_ordered 0 ts ≡ true → is_word n ≡ true → is_form (record { terms = terms; plus = n }) ≡ true
made ts terms n p o w = kept_whole (record { terms = terms; plus = n }) (subst (λ l. is_ordered 0 l ≡ true) (sym p.put) o) w (subst (λ l. are_words l ≡ true) (sym p.put) p.words)

pub sum_made : (f g : Form) (turn : Bool) (terms : List (ℕ × ℤ)) (n : ℤ) → is_form f ≡ true → is_form g ≡ true → ArePut [] (put_all f.terms (turned turn g.terms)) terms → is_word n ≡ true
    → is_form (record { terms = terms; plus = n }) ≡ true
sum_made f g turn terms n h k p w =
    made (put_all f.terms (turned turn g.terms)) terms n p (all_ordered 0 f.terms (turned turn g.terms) (kept_parts f h).ordered (turned_ordered 0 turn g.terms (kept_parts g k).ordered)) w

pub scaled_made : (f : Form) (c : ℤ) (terms : List (ℕ × ℤ)) (n : ℤ) → is_form f ≡ true → ArePut [] (scaled_terms c f.terms) terms → is_word n ≡ true → is_form (record { terms = terms; plus = n }) ≡ true
scaled_made f c terms n h p w = made (scaled_terms c f.terms) terms n p (scaled_ordered 0 c f.terms (kept_parts f h).ordered) w

same_form : (f : Form) (terms : List (ℕ × ℤ)) (n : ℤ) → terms ≡ f.terms → n ≡ f.plus → record { terms = terms; plus = n } ≡ f
same_form f terms n p q = λ i. record { terms = p i; plus = q i }

pub add_is : (f g : Form) (terms : List (ℕ × ℤ)) (n : ℤ) → ArePut [] (put_all f.terms (turned false g.terms)) terms → n ≡ f.plus +ℤ g.plus → record { terms = terms; plus = n } ≡ add f g
add_is f g terms n p q = same_form (add f g) terms n p.put q

pub sub_is : (f g : Form) (terms : List (ℕ × ℤ)) (n : ℤ) → ArePut [] (put_all f.terms (turned true g.terms)) terms → n ≡ f.plus -ℤ g.plus → record { terms = terms; plus = n } ≡ sub f g
sub_is f g terms n p q = same_form (sub f g) terms n p.put (q ∙ as_sum f.plus g.plus)
  where
    as_sum : (a b : ℤ) → a -ℤ b ≡ a +ℤ neg_ℤ b
    as_sum a b = omega (arith, ints)

pub scale_is : (f : Form) (c : ℤ) (terms : List (ℕ × ℤ)) (n : ℤ) → ArePut [] (scaled_terms c f.terms) terms → n ≡ c *ℤ f.plus → record { terms = terms; plus = n } ≡ scale c f
scale_is f c terms n p q = same_form (scale c f) terms n p.put q
