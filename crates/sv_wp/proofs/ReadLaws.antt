-- Atoms name only symbols that the change names, and on the tape of a run they are read as they are.
use Rattle.std.proofs.Common.{◌≡◌, ◌∙◌, ℕ, ◌^◌, ◌-◌, Bool, true, false, List, [], ◌∷◌, Option, Some, None, ℤ, pos, negsuc, neg_ℤ, FitsSigned, ◌+ℤ◌, ◌-ℤ◌, ◌≤ℤ◌, refl, sym, ap, subst, arith, All}
use Rattle.std.specs.Prelude.{◌==◌, ◌&&◌, ◌↔◌, nat_lt, int_le, if◌then◌else◌}
use Rattle.std.specs.Int.{int_wrap, w128}
use Rattle.std.specs.Ordering.{int_eq}
use Rattle.std.proofs.lemmas.Int.{ints, int_wrap_fits}
use Rattle.std.proofs.lemmas.List.Elements.{All-nil, All-cons, All-head, All-tail}
use Rattle.sv_value.specs.declared.values.Val.{Val}
use Rattle.sv_app.specs.Schema.{Declaration}
use Rattle.sv_bounds.specs.Differences.{Within}
use Rattle.sv_linear.specs.declared.effects.SymVal.TheVariants as vals
use Rattle.sv_linear.specs.declared.effects.SymWrite.{SymWrite as CodedWrite}
use Rattle.sv_linear.specs.declared.effects.SymWrite.TheVariants as coded
use Rattle.sv_linear.specs.declared.forms.Form.{Form as CodedForm}
use Rattle.sv_linear.specs.Atoms.{tests_by, terms_at_most}
use Rattle.sv_linear.specs.Codes.{write_of, writes_of, effect_of}
use Rattle.sv_linear.specs.Effects.{SymValue, Number, TextIs, TextSymbol, SymWrite, Delta, Set, linear}
use Rattle.sv_linear.specs.Forms.{Form, value, terms_value, number, sub, with_term, put, put_all, negated_terms, is_word, is_ordered, are_words}
use Rattle.sv_linear.specs.Tests.{Test, AtMost, Never, TestHolds}
use Rattle.sv_linear.proofs.FormLaws.{sub_value}
use Rattle.sv_wp.specs.Gives.{IsMetOn, writes_on, write_on}
use Rattle.sv_wp.specs.Reads.{TermsAre, ValueIs, WriteIs, TestIs, AtomsName, IsShortWrite, AtomsAreExact}
use Rattle.sv_wp.proofs.KeptLaws.{Keeps, kept_atoms}

-- ---- symbols

module _ (among : ℕ → Bool) where
  abbrev Are : List (ℕ × ℤ) → Type 0
  Are ts = TermsAre among ts

  term_are : (k : ℕ) (c : ℤ) (ts : List (ℕ × ℤ)) → among k ≡ true → Are ts → Are (with_term k c ts)
  term_are k c ts here all = by (int_eq c (pos 0))
    where
      by : (b : Bool) → Are (if b then ts else (k, c) ∷ ts)
      by true = all
      by false = All-cons (λ t. among t.0 ≡ true) (k, c) ts here all

  put_are : (k : ℕ) (c : ℤ) (ts : List (ℕ × ℤ)) → among k ≡ true → Are ts → Are (put k c ts)
  put_are k c [] here all = term_are k c [] here all
  put_are k c (t ∷ ts) here all = by (nat_lt k t.0) (k == t.0) (put_are k c ts here (All-tail (λ u. among u.0 ≡ true) t ts all))
    where
      rest : Are ts
      rest = All-tail (λ u. among u.0 ≡ true) t ts all

      by : (a b : Bool) → Are (put k c ts) → Are (if a then with_term k c (t ∷ ts) else if b then with_term k (c +ℤ t.1) ts else t ∷ put k c ts)
      by true b later = term_are k c (t ∷ ts) here all
      by false true later = term_are k (c +ℤ t.1) ts here rest
      by false false later = All-cons (λ u. among u.0 ≡ true) t (put k c ts) (All-head (λ u. among u.0 ≡ true) t ts all) later

  put_all_are : (ts us : List (ℕ × ℤ)) → Are ts → Are us → Are (put_all ts us)
  put_all_are [] us p q = q
  put_all_are (t ∷ ts) us p q = put_are t.0 t.1 (put_all ts us) (All-head (λ u. among u.0 ≡ true) t ts p) (put_all_are ts us (All-tail (λ u. among u.0 ≡ true) t ts p) q)

  negated_are : (ts : List (ℕ × ℤ)) → Are ts → Are (negated_terms ts)
  negated_are [] p = All-nil (λ u. among u.0 ≡ true)
  negated_are (t ∷ ts) p = All-cons (λ u. among u.0 ≡ true) (t.0, neg_ℤ t.1) (negated_terms ts) (All-head (λ u. among u.0 ≡ true) t ts p) (negated_are ts (All-tail (λ u. among u.0 ≡ true) t ts p))

  abbrev Side : Form → Type 0
  Side f = Are f.terms

  terms_named : (ts : List (ℕ × ℤ)) (most : ℤ) → Are ts → All (TestIs among) (terms_at_most ts most)
  terms_named [] most p = by (int_le (pos 0) most)
    where
      by : (b : Bool) → All (TestIs among) (if b then [] else Never ∷ [])
      by true = All-nil (TestIs among)
      by false = All-cons (TestIs among) Never [] tt (All-nil (TestIs among))
  terms_named (t ∷ ts) most p = All-cons (TestIs among) (AtMost (record { terms = t ∷ ts; plus = pos 0 }) most) [] p (All-nil (TestIs among))

  tests_named : (f g : Form) (most : Option ℤ) → Side f → Side g → All (TestIs among) (tests_by (sub f g) most)
  tests_named f g None p q = All-cons (TestIs among) Never [] tt (All-nil (TestIs among))
  tests_named f g (Some most) p q = terms_named (sub f g).terms (most -ℤ (sub f g).plus) (put_all_are f.terms (negated_terms g.terms) p (negated_are g.terms q))

  value_named : (v : SymValue) → ValueIs among v → Side (linear v)
  value_named (Number f) p = p
  value_named (TextIs t) p = All-nil (λ u. among u.0 ≡ true)
  value_named (TextSymbol n) p = All-nil (λ u. among u.0 ≡ true)

  names_kept : Keeps (TestIs among) (WriteIs among) Side
  names_kept = record {
    never = tt;
    zero_side = All-nil (λ u. among u.0 ≡ true);
    delta = λ f p. p;
    set = value_named;
    at_most = tests_named;
    listed = λ symbol number p. p;
  }

pub atoms_name : AtomsName
atoms_name among told schema e place all = kept_atoms (TestIs among) (WriteIs among) (Side among) (names_kept among) told schema e all place

-- ---- values

pub word_within : (n : ℤ) → is_word n ≡ true → Within (2 ^ 63) n
word_within n e = by (int_le (neg_ℤ (pos (2 ^ 63))) n) refl (int_le n (pos (2 ^ 63 - 1))) refl e
  where
    by : (a : Bool) → int_le (neg_ℤ (pos (2 ^ 63))) n ≡ a → (b : Bool) → int_le n (pos (2 ^ 63 - 1)) ≡ b → (a && b) ≡ true → Within (2 ^ 63) n
    by true p true q e =
        let low : neg_ℤ (pos (2 ^ 63)) ≤ℤ n = grind (arith, ints, p) in
        let high : n ≤ℤ pos (2 ^ 63 - 1) = grind (arith, ints, q) in
        record { low = low; high = omega (arith, ints, high) }
    by true p false q e = absurd cc
    by false p b q e = absurd cc

and_last : (a b c : Bool) → (a && (b && c)) ≡ true → b ≡ true
and_last true true c e = refl
and_last true false c e = absurd cc
and_last false b c e = absurd cc

plus_within : (f : CodedForm) → Within (2 ^ 63) f.plus
plus_within f = word_within f.plus (and_last (is_ordered 0 f.terms) (is_word f.plus) (are_words f.terms) f.right)

fitting : (v : ℤ) → Within (2 ^ 67) v → FitsSigned w128 v
fitting (pos n) w = record { sfits = omega (arith, ints, w.high) }
fitting (negsuc n) w = record { sfits = omega (arith, ints, w.low) }

module _ (schema : List Declaration) (tape : List Val) where
  abbrev pub Exact : Test → Type 0
  Exact t = TestHolds schema tape t ↔ IsMetOn schema tape t

  -- its value lies between -2^64 and 2^64, and its constant is one of 64 bits
  record Short (f : Form) : Type 0 where
    of_value : Within (2 ^ 64) (value f tape)
    of_plus : Within (2 ^ 63) f.plus

  abbrev ShortWrite : SymWrite → Type 0
  ShortWrite (Delta f) = Short f
  ShortWrite (Set v) = Short (linear v)

  zero_short : Short (number (pos 0))
  zero_short = record { of_value = record { low = omega (arith, ints); high = omega (arith, ints) }; of_plus = record { low = omega (arith, ints); high = omega (arith, ints) } }

  same : (t : Test) → TestHolds schema tape t ≡ IsMetOn schema tape t → Exact t
  same t e = subst (λ T. TestHolds schema tape t ↔ T) e (λ h. h, λ h. h)

  fits : (v : ℤ) → Within (2 ^ 67) v → int_wrap w128 v ≡ v
  fits v w = int_wrap_fits w128 v (fitting v w)

  exact_terms : (f g : Form) (ts : List (ℕ × ℤ)) (most : ℤ) → ts ≡ (sub f g).terms → Within (2 ^ 64) (value f tape) → Within (2 ^ 64) (value g tape) → Within (2 ^ 64) (sub f g).plus
      → All Exact (terms_at_most ts most)
  exact_terms f g [] most is p q c = by (int_le (pos 0) most)
    where
      by : (b : Bool) → All Exact (if b then [] else Never ∷ [])
      by true = All-nil Exact
      by false = All-cons Exact Never [] (λ h. h, λ h. h) (All-nil Exact)
  exact_terms f g (t ∷ ts) most is p q c =
      All-cons Exact (AtMost (record { terms = t ∷ ts; plus = pos 0 }) most) [] (same (AtMost (record { terms = t ∷ ts; plus = pos 0 }) most) (ap (λ n. n ≤ℤ most) (fits _ bounded))) (All-nil Exact)
    where
      bounded : Within (2 ^ 67) (pos 0 +ℤ terms_value (t ∷ ts) tape)
      bounded =
          let whole : ((sub f g).plus +ℤ terms_value (t ∷ ts) tape) ≡ (value f tape -ℤ value g tape) = ap (λ us. (sub f g).plus +ℤ terms_value us tape) is ∙ sub_value f g tape in
          record { low = omega (arith, ints, whole, p.low, p.high, q.low, q.high, c.low, c.high); high = omega (arith, ints, whole, p.low, p.high, q.low, q.high, c.low, c.high) }

  pub exact_tests : (f g : Form) (most : Option ℤ) → Within (2 ^ 64) (value f tape) → Within (2 ^ 64) (value g tape) → ((m : ℤ) → most ≡ Some m → Within (2 ^ 64) (sub f g).plus)
      → All Exact (tests_by (sub f g) most)
  exact_tests f g None p q c = All-cons Exact Never [] (λ h. h, λ h. h) (All-nil Exact)
  exact_tests f g (Some most) p q c = exact_terms f g (sub f g).terms (most -ℤ (sub f g).plus) refl p q (c most refl)

  plus_short : (f g : Form) → Short f → Short g → Within (2 ^ 64) (sub f g).plus
  plus_short f g p q = record {
    low = omega (arith, ints, p.of_plus.low, p.of_plus.high, q.of_plus.low, q.of_plus.high);
    high = omega (arith, ints, p.of_plus.low, p.of_plus.high, q.of_plus.low, q.of_plus.high);
  }

  exact_kept : Keeps Exact ShortWrite Short
  exact_kept = record {
    never = (λ h. h, λ h. h);
    zero_side = zero_short;
    delta = λ f p. p;
    set = λ v p. p;
    at_most = λ f g most p q. exact_tests f g most p.of_value q.of_value (λ m is. plus_short f g p q);
    listed = λ symbol number p. (λ h. h, λ h. h);
  }

  short_write : (w : CodedWrite) → IsShortWrite (write_on tape (write_of w)) → ShortWrite (write_of w)
  short_write (coded.Delta f) p = record { of_value = p; of_plus = plus_within f }
  short_write (coded.Set (vals.Num f)) p = record { of_value = p; of_plus = plus_within f }
  short_write (coded.Set (vals.TextIs t)) p = zero_short
  short_write (coded.Set (vals.TextSym n)) p = zero_short

  short_writes : (ws : List (ℕ × CodedWrite)) → All (λ w. IsShortWrite w.1) (writes_on tape (writes_of ws)) → All (λ w. ShortWrite w.1) (writes_of ws)
  short_writes [] p = All-nil (λ w. ShortWrite w.1)
  short_writes (w ∷ ws) p =
      All-cons (λ v. ShortWrite v.1) (w.0, write_of w.1) (writes_of ws) (short_write w.1 (All-head (λ v. IsShortWrite v.1) (w.0, write_on tape (write_of w.1)) (writes_on tape (writes_of ws)) p))
      (short_writes ws (All-tail (λ v. IsShortWrite v.1) (w.0, write_on tape (write_of w.1)) (writes_on tape (writes_of ws)) p))

pub atoms_are_exact : AtomsAreExact
atoms_are_exact told schema e place tape change stands short =
    kept_atoms (Exact schema tape) (ShortWrite schema tape) (Short schema tape) (exact_kept schema tape) told schema (effect_of e)
    (short_writes schema tape e.writes (subst (All (λ w. IsShortWrite w.1)) (sym stands.writes) short)) place
