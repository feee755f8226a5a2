-- The label that a dictionary decides for a trace: red with the first atom that is false on the tape of its instance, else blue.
use Rattle.std.specs.Prelude.{◌≡◌, ◌⊎◌, ℕ, ◌<◌, List, ◌++◌, map, Some, slice_get}
use Rattle.sv_app.specs.declared.instances.Instance.{Instance}
use Rattle.sv_app.specs.declared.reasons.Reason.{Reason}
use Rattle.sv_app.specs.Schema.{Declaration}
use Rattle.sv_linear.specs.declared.tests.Atom.{Atom}
use Rattle.sv_linear.specs.Codes.{test_of}
use Rattle.sv_linear.specs.Tests.{TestHolds}
use Rattle.sv_threat.specs.declared.label.Label.{Label}
use Rattle.sv_threat.specs.declared.label.Label.TheVariants.{Nothing, Blue, Red}
use Rattle.sv_label.specs.declared.templates.Template.{Template}
use Rattle.sv_label.specs.Covers.{last_of}
use Rattle.sv_label.specs.Groups.{Group, found}

-- the atoms that are left to a run: those that are kept, and then the one that nothing meets
abbrev pub asked : Template → List Atom
asked t = map (λ k. k.atom) t.left.kept ++ last_of t.left.never

-- an atom of the template of an instance's path that is false on its tape
pub record Failure (schema : List Declaration) (groups : List Group) (txn : ℕ) (trace : List Instance) : Type 0 where
  pub instance : ℕ
  pub number : ℕ
  pub ran : Instance
  pub template : Template
  pub atom : Atom
  pub at : slice_get trace instance ≡ Some ran
  pub stands : found groups txn ran.unit ran.choices ≡ Some template
  pub listed : slice_get (asked template) number ≡ Some atom
  pub fails : TestHolds schema ran.tape (test_of atom.test) → ⊥

-- by the place of its change, then in the order of the list
abbrev pub IsBefore : ℕ → Atom → ℕ → Atom → Type 0
IsBefore m a n b = (a.place < b.place) ⊎ ((a.place ≡ b.place) × (m < n))

abbrev pub IsSooner : {schema : List Declaration} → {groups : List Group} → {txn : ℕ} → {trace : List Instance} → Failure schema groups txn trace → Failure schema groups txn trace → Type 0
IsSooner a b = (a.instance < b.instance) ⊎ ((a.instance ≡ b.instance) × IsBefore a.number a.atom b.number b.atom)

-- the first failure is of this instance and place, by this reason
pub record IsRed (schema : List Declaration) (groups : List Group) (txn : ℕ) (trace : List Instance) (instance place : ℕ) (reason : Reason) : Type 0 where
  pub failure : Failure schema groups txn trace
  pub first : (other : Failure schema groups txn trace) → IsSooner other failure → ⊥
  pub instance_is : failure.instance ≡ instance
  pub place_is : failure.atom.place ≡ place
  pub reason_is : failure.atom.reason ≡ reason

abbrev pub IsDecided : List Declaration → List Group → ℕ → List Instance → Label → Type 0
IsDecided schema groups txn trace Nothing = ⊥
IsDecided schema groups txn trace Blue = Failure schema groups txn trace → ⊥
IsDecided schema groups txn trace (Red instance place reason) = IsRed schema groups txn trace instance place reason
