-- Linear forms over the symbols of a path, which count from 1, and their values on a tape. Symbol 0 stands for zero.
use Rattle.std.specs.Prelude.{ℕ, zero, suc, ℤ, pos, neg_ℤ, ◌+ℤ◌, ◌-◌, ◌*ℤ◌, ◌^◌, ◌==◌, ◌&&◌, nat_lt, int_le, not, Bool, true, if◌then◌else◌, List, [], ◌∷◌}
use Rattle.std.specs.Ordering.{int_eq}
use Rattle.sv_value.specs.declared.values.Val.{Val}
use Rattle.sv_value.specs.declared.values.Val.TheVariants.{Int}
use Rattle.sv_app.specs.Fitting.{number_in}
use Rattle.sv_app.specs.Slots.{item}

-- symbols with their coefficients, in ascending order and none with the coefficient 0, and a constant
pub record Form : Type 0 where
  pub terms : List (ℕ × ℤ)
  pub plus : ℤ

-- the value of a symbol
abbrev pub symbol_at : List Val → ℕ → Val
symbol_at tape zero = Int (pos 0)
symbol_at tape (suc n) = item (Int (pos 0)) tape n

abbrev pub number_at : List Val → ℕ → ℤ
number_at tape n = number_in (symbol_at tape n)

abbrev pub terms_value : List (ℕ × ℤ) → List Val → ℤ
terms_value [] tape = pos 0
terms_value (t ∷ ts) tape = (t.1 *ℤ number_at tape t.0) +ℤ terms_value ts tape

abbrev pub value : Form → List Val → ℤ
value f tape = f.plus +ℤ terms_value f.terms tape

abbrev pub number : ℤ → Form
number n = record { terms = []; plus = n }

abbrev pub symbol : ℕ → Form
symbol k = record { terms = (k, pos 1) ∷ []; plus = pos 0 }

-- without a term whose coefficient is 0
abbrev pub with_term : ℕ → ℤ → List (ℕ × ℤ) → List (ℕ × ℤ)
with_term k c ts = if int_eq c (pos 0) then ts else (k, c) ∷ ts

-- one more term, in its place
abbrev pub put : ℕ → ℤ → List (ℕ × ℤ) → List (ℕ × ℤ)
put k c [] = with_term k c []
put k c (t ∷ ts) =
    if nat_lt k t.0 then with_term k c (t ∷ ts) else
    if k == t.0 then with_term k (c +ℤ t.1) ts else
    t ∷ put k c ts

abbrev pub put_all : List (ℕ × ℤ) → List (ℕ × ℤ) → List (ℕ × ℤ)
put_all [] us = us
put_all (t ∷ ts) us = put t.0 t.1 (put_all ts us)

abbrev pub add : Form → Form → Form
add f g = record { terms = put_all f.terms g.terms; plus = f.plus +ℤ g.plus }

abbrev pub scaled_terms : ℤ → List (ℕ × ℤ) → List (ℕ × ℤ)
scaled_terms c [] = []
scaled_terms c (t ∷ ts) = with_term t.0 (c *ℤ t.1) (scaled_terms c ts)

abbrev pub scale : ℤ → Form → Form
scale c f = record { terms = scaled_terms c f.terms; plus = c *ℤ f.plus }

abbrev pub negated_terms : List (ℕ × ℤ) → List (ℕ × ℤ)
negated_terms [] = []
negated_terms (t ∷ ts) = (t.0, neg_ℤ t.1) ∷ negated_terms ts

abbrev pub minus : Form → Form
minus f = record { terms = negated_terms f.terms; plus = neg_ℤ f.plus }

abbrev pub sub : Form → Form → Form
sub f g = add f (minus g)

-- a whole number of 64 bits
abbrev pub is_word : ℤ → Bool
is_word n = int_le (neg_ℤ (pos (2 ^ 63))) n && int_le n (pos (2 ^ 63 - 1))

abbrev pub are_words : List (ℕ × ℤ) → Bool
are_words [] = true
are_words (t ∷ ts) = is_word t.1 && are_words ts

-- each coefficient and the constant is of 64 bits; a form that isn't narrow is wide
abbrev pub is_narrow : Form → Bool
is_narrow f = is_word f.plus && are_words f.terms

-- symbols above the one before, in ascending order, none with the coefficient 0
abbrev pub is_ordered : ℕ → List (ℕ × ℤ) → Bool
is_ordered before [] = true
is_ordered before (t ∷ ts) = nat_lt before t.0 && not (int_eq t.1 (pos 0)) && is_ordered t.0 ts

-- a form of symbols from 1 that is narrow
abbrev pub is_form : Form → Bool
is_form f = is_ordered 0 f.terms && is_narrow f
