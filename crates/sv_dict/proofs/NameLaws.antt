-- The atoms of a path's changes name its symbols, and their bounds are short.
use Rattle.std.proofs.Common.{◌≡◌, ◌∙◌, ◌≤◌, ◌<◌, ◌&&◌, nat_lt, if◌then◌else◌, ℕ, zero, suc, ℤ, Bool, true, false, List, [], ◌∷◌, ◌++◌, map, refl, sym, ap, subst, arith, All}
use Rattle.std.proofs.lemmas.List.Elements.{All-nil, All-cons, All-head, All-tail, All-append}
use Rattle.sv_app.specs.Schema.{Declaration}
use Rattle.sv_linear.specs.Atoms.{Gain, atoms, is_never, to_never}
use Rattle.sv_linear.specs.Effects.{SymValue, Number, TextIs, TextSymbol, SymWrite, Delta, Set, SymEffect}
use Rattle.sv_linear.specs.Named.{IsSymbol, TermsName, ValueNames, WriteNames, WritesName, EffectsName, IsTestOf, AreAtoms}
use Rattle.sv_linear.specs.Tests.{Test, AtMost, InList, Never, Atom}
use Rattle.sv_wp.specs.Listing.{IsShortTest, AreShortAtoms}
use Rattle.sv_wp.specs.Reads.{TermsAre, ValueIs, WriteIs, TestIs}
use Rattle.sv_wp.proofs.ReadLaws.{atoms_name}
use Rattle.sv_listing.specs.Listed.{atoms_from}

module _ (n : ℕ) where
  abbrev among : ℕ → Bool
  among zero = false
  among (suc s) = nat_lt s n

  is_among : (s : ℕ) → IsSymbol n s → among s ≡ true
  is_among zero is = absurd (let one : 1 ≤ 0 = is.0 in omega (arith, one))
  is_among (suc s) is = let few : suc s ≤ n = is.1 in grind (arith, few)

  was_among : (s : ℕ) → among s ≡ true → IsSymbol n s
  was_among zero is = absurd cc
  was_among (suc s) is = (omega arith, grind (arith, is))

  terms_among : (ts : List (ℕ × ℤ)) → TermsName n ts → TermsAre among ts
  terms_among [] names = All-nil (λ t. among t.0 ≡ true)
  terms_among (t ∷ ts) names = All-cons (λ t. among t.0 ≡ true) t ts (is_among t.0 names.0) (terms_among ts names.1)

  terms_were : (ts : List (ℕ × ℤ)) → TermsAre among ts → TermsName n ts
  terms_were [] are = tt
  terms_were (t ∷ ts) are = (was_among t.0 (All-head (λ t. among t.0 ≡ true) t ts are), terms_were ts (All-tail (λ t. among t.0 ≡ true) t ts are))

  value_among : (v : SymValue) → ValueNames n v → ValueIs among v
  value_among (Number f) names = terms_among f.terms names
  value_among (TextIs t) names = tt
  value_among (TextSymbol s) names = is_among s names

  write_among : (w : SymWrite) → WriteNames n w → WriteIs among w
  write_among (Delta f) names = terms_among f.terms names
  write_among (Set v) names = value_among v names

  writes_among : (ws : List (ℕ × SymWrite)) → WritesName n ws → All (λ w. WriteIs among w.1) ws
  writes_among [] names = All-nil (λ w. WriteIs among w.1)
  writes_among (w ∷ ws) names = All-cons (λ w. WriteIs among w.1) w ws (write_among w.1 names.0) (writes_among ws names.1)

  all_among : (told : Gain) (schema : List Declaration) (place : ℕ) (es : List SymEffect) → EffectsName n es → All (λ (a : Atom). TestIs among a.test) (atoms_from told schema place es)
  all_among told schema place [] names = All-nil (λ (a : Atom). TestIs among a.test)
  all_among told schema place (e ∷ es) names =
      All-append (λ (a : Atom). TestIs among a.test) (atoms told schema e place) (atoms_from told schema (suc place) es) (atoms_name among told schema e place (writes_among e.writes names.0))
      (all_among told schema (suc place) es names.1)

  cut_among : (l : List Atom) → All (λ (a : Atom). TestIs among a.test) l → All (λ (a : Atom). TestIs among a.test) (to_never l)
  cut_among [] all = all
  cut_among (a ∷ l) all = by (is_never a.test) (cut_among l (All-tail (λ (a : Atom). TestIs among a.test) a l all))
    where
      by : (b : Bool) → All (λ (a : Atom). TestIs among a.test) (to_never l) → All (λ (a : Atom). TestIs among a.test) (if b then a ∷ [] else a ∷ to_never l)
      by true later = All-cons (λ (a : Atom). TestIs among a.test) a [] (All-head (λ (a : Atom). TestIs among a.test) a l all) (All-nil (λ (a : Atom). TestIs among a.test))
      by false later = All-cons (λ (a : Atom). TestIs among a.test) a (to_never l) (All-head (λ (a : Atom). TestIs among a.test) a l all) later

  is_test : (t : Test) → TestIs among t → IsShortTest t → IsTestOf n t
  is_test (AtMost f most) names short = record { names = terms_were f.terms names; low = short.low; high = short.high }
  is_test (InList s number) names short = was_among s names
  is_test Never names short = tt

  both : (l : List Atom) → All (λ (a : Atom). TestIs among a.test) l → AreShortAtoms l → AreAtoms n l
  both [] names short = All-nil (λ (a : Atom). IsTestOf n a.test)
  both (a ∷ l) names short =
      All-cons (λ (a : Atom). IsTestOf n a.test) a l (is_test a.test (All-head (λ (a : Atom). TestIs among a.test) a l names) (All-head (λ (a : Atom). IsShortTest a.test) a l short))
      (both l (All-tail (λ (a : Atom). TestIs among a.test) a l names) (All-tail (λ (a : Atom). IsShortTest a.test) a l short))

  pub atoms_over : (told : Gain) (schema : List Declaration) (place : ℕ) (es : List SymEffect) → EffectsName n es → AreShortAtoms (to_never (atoms_from told schema place es))
      → AreAtoms n (to_never (atoms_from told schema place es))
  atoms_over told schema place es names short =
      both (to_never (atoms_from told schema place es)) (cut_among (atoms_from told schema place es) (all_among told schema place es names)) short
