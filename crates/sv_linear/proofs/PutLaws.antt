-- Terms that are put one behind another, and where that stops.
use Rattle.std.proofs.Common.{◌≡◌, ℕ, ◌≤◌, ℤ, pos, ◌*ℤ◌, List, [], ◌∷◌, ◌++◌, length, Bool, true, false, ◌&&◌, cond, refl, sym, ap, subst, ◌∙◌, arith, append_assoc}
use Rattle.std.specs.Ordering.{int_eq}
use Rattle.sv_linear.specs.declared.stops.FormStop.{FormStop}
use Rattle.sv_linear.specs.declared.stops.FormStop.TheVariants.{Wide, NoMemory}
use Rattle.sv_linear.specs.Forms.{Form, with_term, scaled_terms, is_word, are_words}
use Rattle.sv_linear.proofs.SliceLaws.{first, rest, by_first}
use Rattle.sv_linear.specs.Sums.{IsStopOf, IsStopOfTerms, ArePut}

term_words : (k : ℕ) (c : ℤ) (ts : List (ℕ × ℤ)) → are_words (with_term k c []) ≡ true → are_words ts ≡ true → are_words (with_term k c ts) ≡ true
term_words k c ts = by_zero (int_eq c (pos 0))
  where
    by_zero : (b : Bool) → are_words (cond b [] ((k, c) ∷ [])) ≡ true → are_words ts ≡ true → are_words (cond b ts ((k, c) ∷ ts)) ≡ true
    by_zero true h g = g
    by_zero false h g = grind (arith, h, g)

term_append : (k : ℕ) (c : ℤ) (ts : List (ℕ × ℤ)) → with_term k c [] ++ ts ≡ with_term k c ts
term_append k c ts = by_zero (int_eq c (pos 0))
  where
    by_zero : (b : Bool) → cond b [] ((k, c) ∷ []) ++ ts ≡ cond b ts ((k, c) ∷ ts)
    by_zero true = refl
    by_zero false = refl

pub puts_then : (k : ℕ) (c : ℤ) (ts before here after : List (ℕ × ℤ)) → ArePut before (with_term k c []) here → ArePut here ts after → ArePut before (with_term k c ts) after
puts_then k c ts before here after p q = record {
  put = q.put ∙ ap (λ l. l ++ ts) p.put ∙ append_assoc before (with_term k c []) ts ∙ ap (λ l. before ++ l) (term_append k c ts);
  words = term_words k c ts p.words q.words;
}

both_false : (a b : Bool) → b ≡ false → (a && b) ≡ false
both_false true b e = e
both_false false b e = refl

pub stops_here : (k : ℕ) (c : ℤ) (ts : List (ℕ × ℤ)) (stop : FormStop) → IsStopOfTerms (with_term k c []) stop → IsStopOfTerms (with_term k c ts) stop
stops_here k c ts Wide h = by_zero (int_eq c (pos 0)) h
  where
    by_zero : (b : Bool) → are_words (cond b [] ((k, c) ∷ [])) ≡ false → are_words (cond b ts ((k, c) ∷ ts)) ≡ false
    by_zero true g = absurd cc
    by_zero false g = grind (arith, g)
stops_here k c ts NoMemory h = h

pub stops_later : (k : ℕ) (c : ℤ) (ts : List (ℕ × ℤ)) (stop : FormStop) → IsStopOfTerms ts stop → IsStopOfTerms (with_term k c ts) stop
stops_later k c ts Wide h = by_zero (int_eq c (pos 0))
  where
    by_zero : (b : Bool) → are_words (cond b ts ((k, c) ∷ ts)) ≡ false
    by_zero true = h
    by_zero false = both_false (is_word c) (are_words ts) h
stops_later k c ts NoMemory h = h

-- the same for a list that is known by an equation
pub puts_as : (ts us before after : List (ℕ × ℤ)) → ts ≡ us → ArePut before us after → ArePut before ts after
puts_as ts us before after e h = subst (λ l. ArePut before l after) (sym e) h

pub stops_as : (ts us : List (ℕ × ℤ)) (stop : FormStop) → ts ≡ us → IsStopOfTerms us stop → IsStopOfTerms ts stop
stops_as ts us stop e h = subst (λ l. IsStopOfTerms l stop) (sym e) h

-- a form whose terms or whose constant is wide
pub wide_terms : (f : Form) (stop : FormStop) → IsStopOfTerms f.terms stop → IsStopOf f stop
wide_terms f Wide h = both_false (is_word f.plus) (are_words f.terms) h
wide_terms f NoMemory h = h

pub wide_plus : (f : Form) (stop : FormStop) → is_word f.plus ≡ false → IsStopOf f stop
wide_plus f Wide h = ap (λ b. b && are_words f.terms) h
wide_plus f NoMemory h = tt {0}

pub scaled_puts : (c : ℤ) (ts : List (ℕ × ℤ)) → 1 ≤ length ts → (before here after : List (ℕ × ℤ))
    → ArePut before (with_term (first ts).0 (c *ℤ (first ts).1) []) here → ArePut here (scaled_terms c (rest ts)) after → ArePut before (scaled_terms c ts) after
scaled_puts c ts h before here after =
    by_first (λ l t later. ArePut before (with_term t.0 (c *ℤ t.1) []) here → ArePut here (scaled_terms c later) after → ArePut before (scaled_terms c l) after)
    (λ t later. puts_then t.0 (c *ℤ t.1) (scaled_terms c later) before here after) ts h

pub scaled_stops : (c : ℤ) (ts : List (ℕ × ℤ)) → 1 ≤ length ts → (stop : FormStop) → IsStopOfTerms (scaled_terms c (rest ts)) stop → IsStopOfTerms (scaled_terms c ts) stop
scaled_stops c ts h stop =
    by_first (λ l t later. IsStopOfTerms (scaled_terms c later) stop → IsStopOfTerms (scaled_terms c l) stop) (λ t later. stops_later t.0 (c *ℤ t.1) (scaled_terms c later) stop) ts h
