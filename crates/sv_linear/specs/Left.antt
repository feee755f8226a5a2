-- What is left of the atoms of a path. One whose form is a difference is dropped where the facts followed by the row of its negation have a cycle,
-- and kept where an assignment meets the facts and makes it false; every other one is kept.
use Rattle.std.specs.Prelude.{◌≡◌, ℕ, suc, ℤ, pos, ◌+ℤ◌, true, false, if◌then◌else◌, List, [], ◌∷◌, ◌++◌, Option, Some, None}
use Rattle.std.specs.Option.{option_map}
use Rattle.std.specs.Ordering.{int_eq}
use Rattle.sv_bounds.specs.declared.systems.Diff.{Diff}
use Rattle.sv_bounds.specs.declared.systems.System.{System}
use Rattle.sv_bounds.specs.Answers.{above_row, with_row, IsSolution}
use Rattle.sv_bounds.specs.Differences.{IsCycle}
use Rattle.sv_linear.specs.Atoms.{is_never}
use Rattle.sv_linear.specs.Facts.{Difference, difference_in}
use Rattle.sv_linear.specs.Forms.{Form}
use Rattle.sv_linear.specs.Tests.{Test, AtMost, InList, Never, Atom}

pub record KeptAtom : Type 0 where
  pub atom : Atom
  pub shown : Option (List ℤ)

-- it stands behind so many kept ones
pub record Dropped : Type 0 where
  pub atom : Atom
  pub after : ℕ
  pub cycle : List ℕ

pub record Left : Type 0 where
  pub kept : List KeptAtom
  pub dropped : List Dropped
  pub never : Option Atom

-- a form that is x - y, x or -x
abbrev pub apart_in : List (ℕ × ℤ) → ℤ → Option Difference
apart_in [] k = None
apart_in (t ∷ ts) k = if int_eq k (pos 0) then difference_in (t ∷ ts) k else None

abbrev pub apart : Form → Option Difference
apart f = apart_in f.terms f.plus

-- the row that says that a test is false, where its form is a difference: x - y is at least one more than it may be
abbrev pub false_row : Test → Option Diff
false_row (AtMost f most) = option_map (λ d. above_row d.x d.y (most +ℤ pos 1)) (apart f)
false_row (InList symbol number) = None
false_row Never = None

-- the facts as a system: variable 0, and one for each symbol
abbrev pub system_of : List Diff → ℕ → System
system_of facts symbols = record { vars = suc symbols; rows = facts }

-- where there is such a row, a value for each variable, and together they meet the facts and it
abbrev pub Shows : System → Option Diff → Option (List ℤ) → Type 0
Shows s None None = Unit {0}
Shows s None (Some values) = ⊥
Shows s (Some row) None = ⊥
Shows s (Some row) (Some values) = IsSolution (with_row s row) values

-- there is such a row, and the facts followed by it have this cycle
abbrev pub HasCycle : System → Option Diff → List ℕ → Type 0
HasCycle s None cycle = ⊥
HasCycle s (Some row) cycle = IsCycle (s.rows ++ row ∷ []) cycle

pub record IsKept (s : System) (a : Atom) (k : KeptAtom) : Type 0 where
  pub same : k.atom ≡ a
  pub possible : is_never a.test ≡ false
  pub shows : Shows s (false_row a.test) k.shown

pub record IsDropped (s : System) (before : ℕ) (a : Atom) (d : Dropped) : Type 0 where
  pub same : d.atom ≡ a
  pub after : d.after ≡ before
  pub cycle : HasCycle s (false_row a.test) d.cycle

abbrev pub nothing_left : Option Atom → Left
nothing_left never = record { kept = []; dropped = []; never = never }

abbrev pub keeping : KeptAtom → Left → Left
keeping k left = record { kept = k ∷ left.kept; dropped = left.dropped; never = left.never }

abbrev pub dropping : Dropped → Left → Left
dropping d left = record { kept = left.kept; dropped = d ∷ left.dropped; never = left.never }

-- each atom behind so many kept ones is kept or dropped, in order, up to the first that nothing meets; what follows it isn't listed
pub data AreLeft (s : System) : ℕ → List Atom → Left → Type 0 where
  End : (before : ℕ) → AreLeft s before [] (nothing_left None)
  Stop : (before : ℕ) (a : Atom) (more : List Atom) → is_never a.test ≡ true → AreLeft s before (a ∷ more) (nothing_left (Some a))
  Keep : (before : ℕ) (a : Atom) (more : List Atom) (k : KeptAtom) (left : Left) → IsKept s a k → AreLeft s (suc before) more left → AreLeft s before (a ∷ more) (keeping k left)
  Drop : (before : ℕ) (a : Atom) (more : List Atom) (d : Dropped) (left : Left) → IsDropped s before a d → AreLeft s before more left → AreLeft s before (a ∷ more) (dropping d left)

abbrev pub IsLeft : List Diff → ℕ → List Atom → Left → Type 0
IsLeft facts symbols atoms left = AreLeft (system_of facts symbols) 0 atoms left
