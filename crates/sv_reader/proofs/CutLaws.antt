-- The tokens up to a place, and those behind it.
use Rattle.std.proofs.Common.{◌≡◌, ◌∙◌, ℕ, ◌+◌, ◌-◌, ◌≤◌, ◌⊎◌, inl, inr, List, [], ◌∷◌, ◌++◌, length, take, drop, refl, sym, ap, arith}
use Rattle.std.proofs.lemmas.List.{length-append, length-drop, take_all}
use Rattle.std.proofs.Math.Seq.{take-append_seam, drop-append_seam}
use Rattle.sv_lex.specs.declared.tokens.Token.{Token}

-- the first tokens, and the others
pub record Cut (tokens : List Token) (left : ℕ) (front rest : List Token) : Type 0 where
  pub whole : tokens ≡ front ++ rest
  pub fits : left ≤ length tokens
  pub first : take (length tokens - left) tokens ≡ front
  pub last : drop (length tokens - left) tokens ≡ rest

pub cut_at : (front rest tokens : List Token) (left : ℕ) → tokens ≡ front ++ rest → length rest ≡ left → Cut tokens left front rest
cut_at front rest tokens left whole e =
    let all : length tokens ≡ length front + length rest = ap length whole ∙ length-append front rest in
    let n : length tokens - left ≡ length front = omega (arith, all, e) in record {
      whole = whole;
      fits = omega (arith, all, e);
      first = (λ i. take (n i) (whole i)) ∙ take-append_seam front rest;
      last = (λ i. drop (n i) (whole i)) ∙ drop-append_seam front rest;
    }

-- all that stands behind a place
pub whole_drop : (tokens : List Token) (at : ℕ) → take (length tokens - at) (drop at tokens) ≡ drop at tokens
whole_drop tokens at = take_all (length tokens - at) (drop at tokens) (let n : length (drop at tokens) ≡ length tokens - at = length-drop at tokens in omega (arith, n))

-- tokens and more of them
pub record Longer (front longer : List Token) : Type 0 where
  pub extra : List Token
  pub is : longer ≡ front ++ extra

head_of : {x y : Token} {xs ys : List Token} → x ∷ xs ≡ y ∷ ys → x ≡ y
head_of e = cc

tail_of : {x y : Token} {xs ys : List Token} → x ∷ xs ≡ y ∷ ys → xs ≡ ys
tail_of e = cc

-- of two fronts of the same tokens the one with fewer behind it is longer
pub longer_front : (front more longer rest : List Token) → front ++ more ≡ longer ++ rest → length rest ≤ length more → Longer front longer
longer_front [] more longer rest e le = record { extra = longer; is = refl }
longer_front (x ∷ front) more [] rest e le = absurd (let n : length (x ∷ front ++ more) ≡ length rest = ap length e in omega (arith, n, le, length-append front more))
longer_front (x ∷ front) more (y ∷ longer) rest e le = let next = longer_front front more longer rest (tail_of e) le in record { extra = next.extra; is = λ i. head_of (sym e) i ∷ next.is i }

-- another front is longer by some token at least
pub record Ahead (front other rest last : List Token) : Type 0 where
  pub token : Token
  pub extra : List Token
  pub longer : other ≡ front ++ token ∷ extra
  pub left : rest ≡ token ∷ extra ++ last

-- of two fronts of the same tokens one is longer, or they are the same
pub compared : (front other rest last : List Token) → front ++ rest ≡ other ++ last → Ahead front other rest last ⊎ (Ahead other front last rest ⊎ ((front ≡ other) × (rest ≡ last)))
compared [] [] rest last e = inr (inr (refl, e))
compared [] (y ∷ other) rest last e = inl (record { token = y; extra = other; longer = refl; left = e })
compared (x ∷ front) [] rest last e = inr (inl (record { token = x; extra = front; longer = refl; left = sym e }))
compared (x ∷ front) (y ∷ other) rest last e = by_order (compared front other rest last (tail_of e))
  where
    head : x ≡ y
    head = head_of e

    by_order : Ahead front other rest last ⊎ (Ahead other front last rest ⊎ ((front ≡ other) × (rest ≡ last)))
        → Ahead (x ∷ front) (y ∷ other) rest last ⊎ (Ahead (y ∷ other) (x ∷ front) last rest ⊎ ((x ∷ front ≡ y ∷ other) × (rest ≡ last)))
    by_order (inl a) = inl (record { token = a.token; extra = a.extra; longer = λ i. sym head i ∷ a.longer i; left = a.left })
    by_order (inr (inl a)) = inr (inl (record { token = a.token; extra = a.extra; longer = λ i. head i ∷ a.longer i; left = a.left }))
    by_order (inr (inr same)) = inr (inr (λ i. head i ∷ same.0 i, same.1))
