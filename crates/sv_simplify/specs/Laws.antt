-- What is left promises: it is one, an atom is dropped exactly where the facts make it true, and it holds on each tape on which they hold.
use Rattle.std.specs.Prelude.{◌≡◌, ◌↔◌, ℕ, ℤ, ◌<ℤ◌, ◌≤ℤ◌, List, [], ◌∷◌, ◌++◌, map, Option, Some, None, All}
use Rattle.sv_value.specs.declared.values.Val.{Val}
use Rattle.sv_bounds.specs.declared.systems.Diff.{Diff}
use Rattle.sv_bounds.specs.Differences.{IsSolvable}
use Rattle.sv_linear.specs.Facts.{HoldsOn, facts_hold}
use Rattle.sv_linear.specs.Forms.{Form, value}
use Rattle.sv_linear.specs.Left.{Left, false_row, IsLeft}
use Rattle.sv_linear.specs.Tests.{Test, AtMost, InList, Never, Atom}

abbrev pub FalseRowsSay : Type 0
FalseRowsSay = (f : Form) (most : ℤ) (row : Diff) (tape : List Val) → false_row (AtMost f most) ≡ Some row → HoldsOn tape row ↔ (most <ℤ value f tape)

-- the same atoms are kept and dropped at the same places; only certificates may differ
pub record SameAtoms (left other : Left) : Type 0 where
  pub kept : map (λ k. k.atom) left.kept ≡ map (λ k. k.atom) other.kept
  pub dropped : map (λ d. d.atom) left.dropped ≡ map (λ d. d.atom) other.dropped
  pub after : map (λ d. d.after) left.dropped ≡ map (λ d. d.after) other.dropped
  pub never : left.never ≡ other.never

abbrev pub LeftOnce : Type 0
LeftOnce = (facts : List Diff) (symbols : ℕ) (atoms : List Atom) (left other : Left) → IsLeft facts symbols atoms left → IsLeft facts symbols atoms other → SameAtoms left other

-- the test is a difference, and no assignment meets the facts and makes it false
abbrev pub CannotFail : List Diff → Option Diff → Type 0
CannotFail facts None = ⊥
CannotFail facts (Some row) = IsSolvable (facts ++ row ∷ []) → ⊥

-- where the test is a difference, some assignment meets the facts and makes it false
abbrev pub MayFail : List Diff → Option Diff → Type 0
MayFail facts None = Unit {0}
MayFail facts (Some row) = IsSolvable (facts ++ row ∷ [])

pub record AreExact (facts : List Diff) (left : Left) : Type 0 where
  pub dropped : All (λ d. CannotFail facts (false_row d.atom.test)) left.dropped
  pub kept : All (λ k. MayFail facts (false_row k.atom.test)) left.kept

abbrev pub LeftExactly : Type 0
LeftExactly = (facts : List Diff) (symbols : ℕ) (atoms : List Atom) (left : Left) → IsLeft facts symbols atoms left → AreExact facts left

-- a test of a form whose exact value is at most the bound
abbrev pub IsMostOn : List Val → Test → Type 0
IsMostOn tape (AtMost f most) = value f tape ≤ℤ most
IsMostOn tape (InList symbol number) = ⊥
IsMostOn tape Never = ⊥

abbrev pub DroppedHold : Type 0
DroppedHold = (facts : List Diff) (symbols : ℕ) (atoms : List Atom) (left : Left) (tape : List Val) → IsLeft facts symbols atoms left → facts_hold tape facts
    → All (λ d. IsMostOn tape d.atom.test) left.dropped
