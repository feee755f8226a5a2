-- The first false atom, with one more behind those that were looked at.
use Rattle.std.proofs.Common.{◌≡◌, ◌↔◌, ◌∙◌, IsTrue, ap, sym, subst, refl, ◌<◌, ◌≤◌, ◌+◌, nat_lt, ℕ, zero, suc, Bool, true, false, if◌then◌else◌, List, [], ◌∷◌, ◌++◌, length, map, take, get_or, Option, Some, None, inl, inr, slice_get, arith}
use Rattle.std.proofs.lemmas.List.{append-nil, take_all}
use Rattle.std.proofs.lemmas.Option.{slice_get_within}
use Rattle.sv_value.specs.declared.values.Val.{Val}
use Rattle.sv_app.specs.Schema.{Declaration}
use Rattle.sv_linear.specs.declared.tests.Atom.{Atom}
use Rattle.sv_linear.specs.declared.left.KeptAtom.{KeptAtom}
use Rattle.sv_linear.specs.Codes.{test_of}
use Rattle.sv_linear.specs.Tests.{TestHolds}
use Rattle.sv_label.specs.declared.failures.Failed.{Failed}
use Rattle.sv_label.specs.declared.templates.Template.{Template}
use Rattle.sv_label.specs.Covers.{last_of}
use Rattle.sv_label.specs.Decided.{asked, IsBefore}
use Rattle.sv_label.specs.Failures.{Fails, failed_by, sooner, IsFirst, IsFirstOf}

-- an item of a list with one more is an earlier one, or that one
data IsPushed (xs : List Atom) (x : Atom) (m : ℕ) (y : Atom) : Type 0 where
  Earlier : slice_get xs m ≡ Some y → IsPushed xs x m y
  Last : m ≡ length xs → y ≡ x → IsPushed xs x m y

pushed : (xs : List Atom) (x : Atom) (m : ℕ) (y : Atom) → slice_get (xs ++ x ∷ []) m ≡ Some y → IsPushed xs x m y
pushed [] x zero y e = let same : y ≡ x = cc in Last refl same
pushed [] x (suc m) y e = absurd cc
pushed (z ∷ xs) x zero y e = Earlier e
pushed (z ∷ xs) x (suc m) y e = behind (pushed xs x m y e)
  where
    behind : IsPushed xs x m y → IsPushed (z ∷ xs) x (suc m) y
    behind (Earlier is) = Earlier is
    behind (Last p q) = Last (ap (λ n. suc n) p) q

stays : (xs : List Atom) (x : Atom) (m : ℕ) (y : Atom) → slice_get xs m ≡ Some y → slice_get (xs ++ x ∷ []) m ≡ Some y
stays [] x m y e = absurd cc
stays (z ∷ xs) x zero y e = e
stays (z ∷ xs) x (suc m) y e = stays xs x m y e

last : (xs : List Atom) (x : Atom) → slice_get (xs ++ x ∷ []) (length xs) ≡ Some x
last [] x = refl
last (z ∷ xs) x = last xs x

pub not_so : (b : Bool) {P : Type 0} → IsTrue b ↔ P → b ≡ false → P → ⊥
not_so b {P} f e h = let so : IsTrue b = f.1 h in absurd cc

-- an atom that holds changes nothing
none_more : (schema : List Declaration) (tape : List Val) (before : List Atom) (a : Atom) → IsFirstOf schema tape before None → TestHolds schema tape (test_of a.test)
    → IsFirstOf schema tape (before ++ a ∷ []) None
none_more schema tape before a none h m other e fails = by_place (pushed before a m other e)
  where
    by_place : IsPushed before a m other → ⊥
    by_place (Earlier is) = none m other is fails
    by_place (Last p q) = fails (subst (λ b. TestHolds schema tape (test_of b.test)) (sym q) h)

some_more : (schema : List Declaration) (tape : List Val) (before : List Atom) (a : Atom) (f : Failed) → IsFirst schema tape before f → TestHolds schema tape (test_of a.test)
    → IsFirst schema tape (before ++ a ∷ []) f
some_more schema tape before a f is h = record {
  number = is.number;
  atom = is.atom;
  listed = stays before a is.number is.atom is.listed;
  fails = is.fails;
  place = is.place;
  reason = is.reason;
  first = λ m other e fails sooner. by_place m other fails sooner (pushed before a m other e);
}
  where
    by_place : (m : ℕ) (other : Atom) → Fails schema tape other → IsBefore m other is.number is.atom → IsPushed before a m other → ⊥
    by_place m other fails sooner (Earlier at) = is.first m other at fails sooner
    by_place m other fails sooner (Last p q) = fails (subst (λ b. TestHolds schema tape (test_of b.test)) (sym q) h)

pub held_on : (schema : List Declaration) (tape : List Val) (before : List Atom) (a : Atom) (held : Option Failed) → IsFirstOf schema tape before held
    → TestHolds schema tape (test_of a.test) → IsFirstOf schema tape (before ++ a ∷ []) held
held_on schema tape before a None none h = none_more schema tape before a none h
held_on schema tape before a (Some f) is h = some_more schema tape before a f is h

-- the first that fails
pub fails_first : (schema : List Declaration) (tape : List Val) (before : List Atom) (a : Atom) → IsFirstOf schema tape before None → Fails schema tape a
    → IsFirst schema tape (before ++ a ∷ []) (failed_by a)
fails_first schema tape before a none fails = record {
  number = length before;
  atom = a;
  listed = last before a;
  fails = fails;
  place = refl;
  reason = refl;
  first = λ m other e more sooner. by_place m other more sooner (pushed before a m other e);
}
  where
    by_place : (m : ℕ) (other : Atom) → Fails schema tape other → IsBefore m other (length before) a → IsPushed before a m other → ⊥
    by_place m other more sooner (Earlier at) = none m other at more
    by_place m other more (inl less) (Last p q) = let same : other.place ≡ a.place = ap (λ b. b.place) q in omega (arith, less, same)
    by_place m other more (inr both) (Last p q) = let less : m < length before = both.1 in omega (arith, less, p)

-- one that fails behind a first one: of a lesser place it is the first
lesser : (schema : List Declaration) (tape : List Val) (before : List Atom) (a : Atom) (f : Failed) → IsFirst schema tape before f → Fails schema tape a → a.place < f.place
    → IsFirst schema tape (before ++ a ∷ []) (failed_by a)
lesser schema tape before a f is fails less = record {
  number = length before;
  atom = a;
  listed = last before a;
  fails = fails;
  place = refl;
  reason = refl;
  first = λ m other e more sooner. by_place m other more sooner (pushed before a m other e);
}
  where
    by_place : (m : ℕ) (other : Atom) → Fails schema tape other → IsBefore m other (length before) a → IsPushed before a m other → ⊥
    by_place m other more (inl under) (Earlier at) = let place : is.atom.place ≡ f.place = is.place in is.first m other at more (inl (omega (arith, under, less, place)))
    by_place m other more (inr both) (Earlier at) = let place : is.atom.place ≡ f.place = is.place in let same : other.place ≡ a.place = both.0 in is.first m other at more (inl (omega (arith, same, less, place)))
    by_place m other more (inl under) (Last p q) = let same : other.place ≡ a.place = ap (λ b. b.place) q in omega (arith, under, same)
    by_place m other more (inr both) (Last p q) = let under : m < length before = both.1 in omega (arith, under, p)

not_lesser : (schema : List Declaration) (tape : List Val) (before : List Atom) (a : Atom) (f : Failed) → IsFirst schema tape before f → f.place ≤ a.place → IsFirst schema tape (before ++ a ∷ []) f
not_lesser schema tape before a f is most = record {
  number = is.number;
  atom = is.atom;
  listed = stays before a is.number is.atom is.listed;
  fails = is.fails;
  place = is.place;
  reason = is.reason;
  first = λ m other e more sooner. by_place m other more sooner (pushed before a m other e);
}
  where
    by_place : (m : ℕ) (other : Atom) → Fails schema tape other → IsBefore m other is.number is.atom → IsPushed before a m other → ⊥
    by_place m other more sooner (Earlier at) = is.first m other at more sooner
    by_place m other more (inl under) (Last p q) = let place : is.atom.place ≡ f.place = is.place in let same : other.place ≡ a.place = ap (λ b. b.place) q in omega (arith, under, same, most, place)
    by_place m other more (inr both) (Last p q) =
        let inside : is.number < length before = slice_get_within before is.number is.atom is.listed in
        let under : m < is.number = both.1 in
        omega (arith, under, inside, p)

by_test : (schema : List Declaration) (tape : List Val) (before : List Atom) (a : Atom) (f : Failed) (b : Bool) → nat_lt a.place f.place ≡ b → IsFirst schema tape before f → Fails schema tape a
    → IsFirst schema tape (before ++ a ∷ []) (if b then failed_by a else f)
by_test schema tape before a f true e is fails = lesser schema tape before a f is fails (grind (arith, e))
by_test schema tape before a f false e is fails = not_lesser schema tape before a f is (grind (arith, e))

pub fails_more : (schema : List Declaration) (tape : List Val) (before : List Atom) (a : Atom) (f : Failed) → IsFirst schema tape before f → Fails schema tape a
    → IsFirst schema tape (before ++ a ∷ []) (sooner f a)
fails_more schema tape before a f is fails = by_test schema tape before a f (nat_lt a.place f.place) refl is fails

one_more : (ks : List KeptAtom) (j : ℕ) (k : KeptAtom) → j < length ks → k ≡ get_or ks j k → map (λ k. k.atom) (take (suc j) ks) ≡ map (λ k. k.atom) (take j ks) ++ k.atom ∷ []
one_more [] j k h e = absurd (omega (arith, h))
one_more (x ∷ ks) zero k h e = ap (λ k. k.atom ∷ []) (sym e)
one_more (x ∷ ks) (suc j) k h e = ap (λ l. x.atom ∷ l) (one_more ks j k (omega (arith, h)) e)

pub kept_more : (ks : List KeptAtom) (j : ℕ) (k : KeptAtom) → j < length ks → k ≡ get_or ks j k → map (λ k. k.atom) (take (j + 1) ks) ≡ map (λ k. k.atom) (take j ks) ++ k.atom ∷ []
kept_more ks j k h e = let next : j + 1 ≡ suc j = omega arith in ap (λ n. map (λ k. k.atom) (take n ks)) next ∙ one_more ks j k h e

pub asked_none : (t : Template) (j : ℕ) → length t.left.kept ≤ j → t.left.never ≡ None → map (λ k. k.atom) (take j t.left.kept) ≡ asked t
asked_none t j h e = ap (λ ks. map (λ k. k.atom) ks) (take_all j t.left.kept h) ∙ sym (append-nil (map (λ k. k.atom) t.left.kept)) ∙ ap (λ n. map (λ k. k.atom) t.left.kept ++ last_of n) (sym e)

pub asked_some : (t : Template) (j : ℕ) (a : Atom) → length t.left.kept ≤ j → t.left.never ≡ Some a → map (λ k. k.atom) (take j t.left.kept) ++ a ∷ [] ≡ asked t
asked_some t j a h e = ap (λ ks. map (λ k. k.atom) ks ++ a ∷ []) (take_all j t.left.kept h) ∙ ap (λ n. map (λ k. k.atom) t.left.kept ++ last_of n) (sym e)
