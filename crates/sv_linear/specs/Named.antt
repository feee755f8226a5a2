-- Forms, facts, effects and tests name only the symbols that were brought in.
use Rattle.std.specs.Prelude.{ℕ, ℤ, pos, neg_ℤ, ◌≤◌, ◌<ℤ◌, ◌^◌, List, [], ◌∷◌, All}
use Rattle.sv_bounds.specs.declared.systems.Diff.{Diff}
use Rattle.sv_linear.specs.Effects.{SymValue, Number, TextIs, TextSymbol, SymWrite, Delta, Set, SymEffect}
use Rattle.sv_linear.specs.Tests.{Test, AtMost, InList, Never, Atom}

-- symbols are numbered from 1 to n
abbrev pub IsSymbol : ℕ → ℕ → Type 0
IsSymbol n s = (1 ≤ s) × (s ≤ n)

abbrev pub TermsName : ℕ → List (ℕ × ℤ) → Type 0
TermsName n [] = Unit {0}
TermsName n (t ∷ ts) = IsSymbol n t.0 × TermsName n ts

abbrev pub ValueNames : ℕ → SymValue → Type 0
ValueNames n (Number f) = TermsName n f.terms
ValueNames n (TextIs t) = Unit {0}
ValueNames n (TextSymbol s) = IsSymbol n s

abbrev pub WriteNames : ℕ → SymWrite → Type 0
WriteNames n (Delta f) = TermsName n f.terms
WriteNames n (Set v) = ValueNames n v

abbrev pub WritesName : ℕ → List (ℕ × SymWrite) → Type 0
WritesName n [] = Unit {0}
WritesName n (w ∷ ws) = WriteNames n w.1 × WritesName n ws

abbrev pub EffectsName : ℕ → List SymEffect → Type 0
EffectsName n [] = Unit {0}
EffectsName n (e ∷ es) = WritesName n e.writes × EffectsName n es

-- a row of a system over symbols 1 to n, where 0 stands for zero, with a bound strictly between -2^70 and 2^70
pub record IsFact (n : ℕ) (row : Diff) : Type 0 where
  pub x : row.x ≤ n
  pub y : row.y ≤ n
  pub low : neg_ℤ (pos (2 ^ 70)) <ℤ row.most
  pub high : row.most <ℤ pos (2 ^ 70)

abbrev pub AreFacts : ℕ → List Diff → Type 0
AreFacts n rows = All (IsFact n) rows

-- a form over symbols 1 to n is at most a number strictly between -2^70 and 2^70
pub record IsBounded (n : ℕ) (terms : List (ℕ × ℤ)) (most : ℤ) : Type 0 where
  pub names : TermsName n terms
  pub low : neg_ℤ (pos (2 ^ 70)) <ℤ most
  pub high : most <ℤ pos (2 ^ 70)

abbrev pub IsTestOf : ℕ → Test → Type 0
IsTestOf n (AtMost f most) = IsBounded n f.terms most
IsTestOf n (InList s number) = IsSymbol n s
IsTestOf n Never = Unit {0}

abbrev pub AreAtoms : ℕ → List Atom → Type 0
AreAtoms n atoms = All (λ a. IsTestOf n a.test) atoms
