-- Terms in ascending order: a sum of them is made by one walk along both lists.
use Rattle.std.proofs.Common.{◌≡◌, ℕ, ◌==◌, ◌<◌, ◌≤◌, ℤ, pos, neg_ℤ, ◌+ℤ◌, ◌*ℤ◌, List, [], ◌∷◌, length, Bool, true, false, ◌&&◌, cond, refl, sym, ap, subst, ◌∙◌, arith, nat_lt}
use Rattle.std.proofs.lemmas.Int.{ints}
use Rattle.std.specs.Ordering.{int_eq}
use Rattle.std.proofs.lemmas.Bool.Decides.{nat_tests}
use Rattle.sv_linear.specs.Forms.{Form, with_term, put, put_all, scaled_terms, negated_terms, is_ordered, is_word, are_words, is_narrow, is_form}
use Rattle.sv_linear.specs.Sums.{signed, turned}
use Rattle.sv_linear.proofs.SliceLaws.{rest, by_first}

-- what stands of terms above a symbol
record Ordered (n : ℕ) (t : ℕ × ℤ) (ts : List (ℕ × ℤ)) : Type 0 where
  above : n < t.0
  some : int_eq t.1 (pos 0) ≡ false
  later : is_ordered t.0 ts ≡ true

parts : (n : ℕ) (t : ℕ × ℤ) (ts : List (ℕ × ℤ)) → is_ordered n (t ∷ ts) ≡ true → Ordered n t ts
parts n t ts h = record { above = grind (arith, nat_tests, h); some = grind (arith, h); later = grind (arith, h) }

whole : (n : ℕ) (t : ℕ × ℤ) (ts : List (ℕ × ℤ)) → n < t.0 → int_eq t.1 (pos 0) ≡ false → is_ordered t.0 ts ≡ true → is_ordered n (t ∷ ts) ≡ true
whole n t ts a b c = grind (arith, nat_tests, a, b, c)

pub lower : (m n : ℕ) (ts : List (ℕ × ℤ)) → m ≤ n → is_ordered n ts ≡ true → is_ordered m ts ≡ true
lower m n [] p h = refl
lower m n (t ∷ ts) p h = let o = parts n t ts h in whole m t ts (omega (arith, o.above, p)) o.some o.later

with_term_ordered : (n k : ℕ) (c : ℤ) (ts : List (ℕ × ℤ)) → n < k → is_ordered k ts ≡ true → is_ordered n (with_term k c ts) ≡ true
with_term_ordered n k c ts p h = by_zero (int_eq c (pos 0)) refl
  where
    by_zero : (b : Bool) → int_eq c (pos 0) ≡ b → is_ordered n (cond b ts ((k, c) ∷ ts)) ≡ true
    by_zero true e = lower n k ts (omega (arith, p)) h
    by_zero false e = whole n (k, c) ts p e h

-- a term that stands first, put before the others
pub put_first : (k : ℕ) (c : ℤ) (us : List (ℕ × ℤ)) → is_ordered k us ≡ true → put k c us ≡ with_term k c us
put_first k c [] h = refl
put_first k c (u ∷ us) h = let o = parts k u us h in grind (arith, nat_tests, o.above)

put_behind : (k : ℕ) (c : ℤ) (y : ℕ × ℤ) (us : List (ℕ × ℤ)) → y.0 < k → put k c (y ∷ us) ≡ y ∷ put k c us
put_behind k c y us h = grind (arith, nat_tests, h)

put_same : (k : ℕ) (c : ℤ) (y : ℕ × ℤ) (us : List (ℕ × ℤ)) → k ≡ y.0 → put k c (y ∷ us) ≡ with_term k (c +ℤ y.1) us
put_same k c y us h = grind (arith, nat_tests, h)

-- a term below all of the one list stays in front
pub all_behind : (ts us : List (ℕ × ℤ)) (y : ℕ × ℤ) → is_ordered y.0 ts ≡ true → put_all ts (y ∷ us) ≡ y ∷ put_all ts us
all_behind [] us y h = refl
all_behind (t ∷ ts) us y h =
    let o = parts y.0 t ts h in
    let later : is_ordered y.0 ts ≡ true = lower y.0 t.0 ts (omega (arith, o.above)) o.later in
    ap (put t.0 t.1) (all_behind ts us y later) ∙ put_behind t.0 t.1 y (put_all ts us) o.above

put_ordered : (n k : ℕ) (c : ℤ) (us : List (ℕ × ℤ)) → n < k → is_ordered n us ≡ true → is_ordered n (put k c us) ≡ true
put_ordered n k c [] p h = with_term_ordered n k c [] p refl
put_ordered n k c (u ∷ us) p h =
    let o = parts n u us h in
    by_place u.0 u.1 us o.above o.some o.later (put_ordered u.0 k c us) (nat_lt k u.0) (k == u.0) refl refl
  where
    by_place : (j : ℕ) (d : ℤ) (us : List (ℕ × ℤ)) → n < j → int_eq d (pos 0) ≡ false → is_ordered j us ≡ true
        → (j < k → is_ordered j us ≡ true → is_ordered j (put k c us) ≡ true) → (a b : Bool) → nat_lt k j ≡ a → (k == j) ≡ b
        → is_ordered n (cond a (with_term k c ((j, d) ∷ us)) (cond b (with_term k (c +ℤ d) us) ((j, d) ∷ put k c us))) ≡ true
    by_place j d us above some later ih true b e f =
        let q : k < j = grind (arith, nat_tests, e) in
        with_term_ordered n k c ((j, d) ∷ us) p (whole k (j, d) us q some later)
    by_place j d us above some later ih false true e f =
        let q : j ≡ k = grind (arith, nat_tests, f) in
        with_term_ordered n k (c +ℤ d) us p (subst (λ m. is_ordered m us ≡ true) q later)
    by_place j d us above some later ih false false e f =
        let q : j < k = grind (arith, nat_tests, e, f) in
        whole n (j, d) (put k c us) above some (ih q later)

pub all_ordered : (n : ℕ) (ts us : List (ℕ × ℤ)) → is_ordered n ts ≡ true → is_ordered n us ≡ true → is_ordered n (put_all ts us) ≡ true
all_ordered n [] us h k = k
all_ordered n (t ∷ ts) us h k =
    let o = parts n t ts h in
    let later : is_ordered n ts ≡ true = lower n t.0 ts (omega (arith, o.above)) o.later in
    put_ordered n t.0 t.1 (put_all ts us) o.above (all_ordered n ts us later k)

not_zero : (c : ℤ) → int_eq c (pos 0) ≡ false → int_eq (neg_ℤ c) (pos 0) ≡ false
not_zero c h = grind (arith, ints, h)

pub negated_ordered : (n : ℕ) (ts : List (ℕ × ℤ)) → is_ordered n ts ≡ true → is_ordered n (negated_terms ts) ≡ true
negated_ordered n [] h = refl
negated_ordered n (t ∷ ts) h =
    let o = parts n t ts h in
    whole n (t.0, neg_ℤ t.1) (negated_terms ts) o.above (not_zero t.1 o.some) (negated_ordered t.0 ts o.later)

pub turned_ordered : (n : ℕ) (minus : Bool) (ts : List (ℕ × ℤ)) → is_ordered n ts ≡ true → is_ordered n (turned minus ts) ≡ true
turned_ordered n true ts h = negated_ordered n ts h
turned_ordered n false ts h = h

pub scaled_ordered : (n : ℕ) (c : ℤ) (ts : List (ℕ × ℤ)) → is_ordered n ts ≡ true → is_ordered n (scaled_terms c ts) ≡ true
scaled_ordered n c [] h = refl
scaled_ordered n c (t ∷ ts) h =
    let o = parts n t ts h in
    with_term_ordered n t.0 (c *ℤ t.1) (scaled_terms c ts) o.above (scaled_ordered t.0 c ts o.later)

-- the later terms
pub later_ordered : (n : ℕ) (t : ℕ × ℤ) (ts : List (ℕ × ℤ)) → is_ordered n (t ∷ ts) ≡ true → is_ordered n ts ≡ true
later_ordered n t ts h = let o = parts n t ts h in lower n t.0 ts (omega (arith, o.above)) o.later

some_kept : (k : ℕ) (c : ℤ) (ts : List (ℕ × ℤ)) → int_eq c (pos 0) ≡ false → (k, c) ∷ ts ≡ with_term k c ts
some_kept k c ts h = grind (arith, h)

-- the walk: the first term of the one list is below that of the other
pub walk_below : (x y : ℕ × ℤ) (xs ys : List (ℕ × ℤ)) (minus : Bool) → is_ordered 0 (x ∷ xs) ≡ true → is_ordered 0 (y ∷ ys) ≡ true → x.0 < y.0
    → put_all (x ∷ xs) (turned minus (y ∷ ys)) ≡ with_term x.0 x.1 (put_all xs (turned minus (y ∷ ys)))
walk_below x y xs ys minus h k p =
    let o = parts 0 x xs h in
    let q = parts 0 y ys k in
    let above : is_ordered x.0 (y ∷ ys) ≡ true = whole x.0 y ys p q.some q.later in
    put_first x.0 x.1 (put_all xs (turned minus (y ∷ ys))) (all_ordered x.0 xs (turned minus (y ∷ ys)) o.later (turned_ordered x.0 minus (y ∷ ys) above))

-- the first of turned terms
pub turned_first : (y : ℕ × ℤ) (ys : List (ℕ × ℤ)) (minus : Bool) → turned minus (y ∷ ys) ≡ (y.0, signed minus y.1) ∷ turned minus ys
turned_first y ys true = refl
turned_first y ys false = refl

turned_some : (c : ℤ) (minus : Bool) → int_eq c (pos 0) ≡ false → int_eq (signed minus c) (pos 0) ≡ false
turned_some c true h = not_zero c h
turned_some c false h = h

-- it is of the same symbol
pub walk_same : (x y : ℕ × ℤ) (xs ys : List (ℕ × ℤ)) (minus : Bool) → is_ordered 0 (x ∷ xs) ≡ true → is_ordered 0 (y ∷ ys) ≡ true → x.0 ≡ y.0
    → put_all (x ∷ xs) (turned minus (y ∷ ys)) ≡ with_term x.0 (x.1 +ℤ signed minus y.1) (put_all xs (turned minus ys))
walk_same x y xs ys minus h k e =
    let o = parts 0 x xs h in
    let z : ℕ × ℤ = (y.0, signed minus y.1) in
    let above : is_ordered z.0 xs ≡ true = subst (λ m. is_ordered m xs ≡ true) e o.later in
    ap (λ l. put_all (x ∷ xs) l) (turned_first y ys minus)
    ∙ ap (put x.0 x.1) (all_behind xs (turned minus ys) z above)
    ∙ put_same x.0 x.1 z (put_all xs (turned minus ys)) e

-- it is above that of the other
pub walk_above : (x y : ℕ × ℤ) (xs ys : List (ℕ × ℤ)) (minus : Bool) → is_ordered 0 (x ∷ xs) ≡ true → is_ordered 0 (y ∷ ys) ≡ true → y.0 < x.0
    → put_all (x ∷ xs) (turned minus (y ∷ ys)) ≡ with_term y.0 (signed minus y.1) (put_all (x ∷ xs) (turned minus ys))
walk_above x y xs ys minus h k p =
    let o = parts 0 x xs h in
    let q = parts 0 y ys k in
    let z : ℕ × ℤ = (y.0, signed minus y.1) in
    let above : is_ordered z.0 (x ∷ xs) ≡ true = whole y.0 x xs p o.some o.later in
    ap (λ l. put_all (x ∷ xs) l) (turned_first y ys minus)
    ∙ all_behind (x ∷ xs) (turned minus ys) z above
    ∙ some_kept y.0 (signed minus y.1) (put_all (x ∷ xs) (turned minus ys)) (turned_some y.1 minus q.some)

-- one list alone
pub all_none : (ts : List (ℕ × ℤ)) → is_ordered 0 ts ≡ true → put_all ts [] ≡ ts
all_none [] h = refl
all_none (t ∷ ts) h =
    let o = parts 0 t ts h in
    ap (put t.0 t.1) (all_none ts (later_ordered 0 t ts h)) ∙ put_first t.0 t.1 ts o.later ∙ sym (some_kept t.0 t.1 ts o.some)

pub turned_none : (minus : Bool) → turned minus [] ≡ []
turned_none true = refl
turned_none false = refl

pub turned_step : (t : ℕ × ℤ) (ts : List (ℕ × ℤ)) (minus : Bool) → is_ordered 0 (t ∷ ts) ≡ true → turned minus (t ∷ ts) ≡ with_term t.0 (signed minus t.1) (turned minus ts)
turned_step t ts minus h =
    let o = parts 0 t ts h in
    turned_first t ts minus ∙ some_kept t.0 (signed minus t.1) (turned minus ts) (turned_some t.1 minus o.some)

pub later_slice : (ts : List (ℕ × ℤ)) → 1 ≤ length ts → is_ordered 0 ts ≡ true → is_ordered 0 (rest ts) ≡ true
later_slice ts h = by_first (λ l t later. is_ordered 0 l ≡ true → is_ordered 0 later ≡ true) (later_ordered 0) ts h

-- what a form of the code is
pub record Kept (f : Form) : Type 0 where
  pub ordered : is_ordered 0 f.terms ≡ true
  pub plus : is_word f.plus ≡ true
  pub words : are_words f.terms ≡ true

and_left : (a b : Bool) → (a && b) ≡ true → a ≡ true
and_left true b e = refl
and_left false b e = absurd cc

and_right : (a b : Bool) → (a && b) ≡ true → b ≡ true
and_right true b e = e
and_right false b e = absurd cc

pub kept_parts : (f : Form) → is_form f ≡ true → Kept f
kept_parts f h =
    let narrow : is_narrow f ≡ true = and_right (is_ordered 0 f.terms) (is_narrow f) h in
    record {
      ordered = and_left (is_ordered 0 f.terms) (is_narrow f) h;
      plus = and_left (is_word f.plus) (are_words f.terms) narrow;
      words = and_right (is_word f.plus) (are_words f.terms) narrow;
    }

pub kept_whole : (f : Form) → is_ordered 0 f.terms ≡ true → is_word f.plus ≡ true → are_words f.terms ≡ true → is_form f ≡ true
kept_whole f a b c = (λ i. a i && (b i && c i))
