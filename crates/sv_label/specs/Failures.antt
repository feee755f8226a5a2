-- The first false atom of a list on one tape.
use Rattle.std.specs.Prelude.{◌≡◌, ℕ, nat_lt, if◌then◌else◌, List, Option, Some, None, slice_get}
use Rattle.sv_value.specs.declared.values.Val.{Val}
use Rattle.sv_app.specs.Schema.{Declaration}
use Rattle.sv_linear.specs.declared.tests.Atom.{Atom}
use Rattle.sv_linear.specs.Codes.{test_of}
use Rattle.sv_linear.specs.Tests.{TestHolds}
use Rattle.sv_label.specs.declared.templates.Template.{Template}
use Rattle.sv_label.specs.declared.failures.Failed.{Failed}
use Rattle.sv_label.specs.Decided.{IsBefore, asked}

abbrev pub Fails : List Declaration → List Val → Atom → Type 0
Fails schema tape a = TestHolds schema tape (test_of a.test) → ⊥

abbrev pub failed_by : Atom → Failed
failed_by a = record { place = a.place; reason = a.reason }

-- the one of the lesser place; of equal places the one that was found
abbrev pub sooner : Failed → Atom → Failed
sooner found a = if nat_lt a.place found.place then failed_by a else found

-- it is of the list, fails, and none that fails is before it
pub record IsFirst (schema : List Declaration) (tape : List Val) (atoms : List Atom) (failed : Failed) : Type 0 where
  pub number : ℕ
  pub atom : Atom
  pub listed : slice_get atoms number ≡ Some atom
  pub fails : Fails schema tape atom
  pub place : atom.place ≡ failed.place
  pub reason : atom.reason ≡ failed.reason
  pub first : (m : ℕ) (other : Atom) → slice_get atoms m ≡ Some other → Fails schema tape other → IsBefore m other number atom → ⊥

abbrev pub IsFirstOf : List Declaration → List Val → List Atom → Option Failed → Type 0
IsFirstOf schema tape atoms None = (m : ℕ) (other : Atom) → slice_get atoms m ≡ Some other → Fails schema tape other → ⊥
IsFirstOf schema tape atoms (Some failed) = IsFirst schema tape atoms failed

-- of the atoms of a template that was found
abbrev pub IsFirstAt : List Declaration → List Val → Option Template → Option Failed → Type 0
IsFirstAt schema tape None failed = ⊥
IsFirstAt schema tape (Some template) failed = IsFirstOf schema tape (asked template) failed
