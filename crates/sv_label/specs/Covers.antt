-- A dictionary covers an application: it has a template for each path that doesn't abort, with the path's symbols, and tests over these.
use Rattle.std.specs.Prelude.{◌≡◌, ℕ, zero, suc, ◌==◌, ◌&&◌, Bool, true, false, List, [], ◌∷◌, length, All, Option, Some, None, slice_get}
use Rattle.std.specs.List.{list_any}
use Rattle.sv_app.specs.declared.instances.Instance.{Instance}
use Rattle.sv_app.specs.declared.schemas.Ty.{Ty}
use Rattle.sv_app.specs.declared.schemas.Ty.TheVariants as types
use Rattle.sv_app.specs.Paths.{Way, Leads, unit_path}
use Rattle.sv_app.specs.Schema.{Rule, Bound, OneOf, Different, Refers, Declaration}
use Rattle.sv_app.specs.Shaped.{Shaped}
use Rattle.sv_app.specs.Trees.{Block, Transaction}
use Rattle.sv_app.specs.Units.{units}
use Rattle.sv_linear.specs.declared.tests.Atom.{Atom}
use Rattle.sv_linear.specs.Codes.{test_of}
use Rattle.sv_linear.specs.Tests.{Test, AtMost, InList, Never}
use Rattle.sv_label.specs.declared.templates.Template.{Template}
use Rattle.sv_label.specs.Groups.{Group, found}

-- the type of a symbol, from 1
abbrev pub type_at : List Ty → ℕ → Option Ty
type_at tys zero = None
type_at tys (suc n) = slice_get tys n

abbrev pub is_list : Rule → Bool
is_list (OneOf column texts) = true
is_list (Bound check) = false
is_list (Different column) = false
is_list (Refers column parent target) = false

-- an invariant of this number is a list
abbrev pub names_list : List Declaration → ℕ → Bool
names_list schema number = list_any (λ d. list_any (λ inv. inv.number == number && is_list inv.rule) d.invs) schema

-- integers in a form, and a text in the list of an invariant
abbrev pub IsTestOver : List Declaration → List Ty → Test → Type 0
IsTestOver schema tys (AtMost f most) = All (λ t. type_at tys t.0 ≡ Some types.Int) f.terms
IsTestOver schema tys (InList symbol number) = (type_at tys symbol ≡ Some types.Text) × (names_list schema number ≡ true)
IsTestOver schema tys Never = Unit {0}

abbrev pub last_of : Option Atom → List Atom
last_of None = []
last_of (Some a) = a ∷ []

pub record IsTemplateOver (schema : List Declaration) (tys : List Ty) (t : Template) : Type 0 where
  pub symbols : t.symbols ≡ length tys
  pub kept : All (λ k. IsTestOver schema tys (test_of k.atom.test)) t.left.kept
  pub dropped : All (λ d. IsTestOver schema tys (test_of d.atom.test)) t.left.dropped
  pub never : All (λ a. IsTestOver schema tys (test_of a.test)) (last_of t.left.never)

-- the path has a template
pub record HasTemplate (schema : List Declaration) (groups : List Group) (txn unit : ℕ) (choices : List Bool) (tys : List Ty) : Type 0 where
  pub template : Template
  pub stands : found groups txn unit choices ≡ Some template
  pub over : IsTemplateOver schema tys template

pub record Covers (schema : List Declaration) (txns : List Transaction) (groups : List Group) : Type 0 where
  pub each : (number unit : ℕ) (txn : Transaction) (body : Block) (choices : List Bool) (end : Way) → slice_get txns number ≡ Some txn → slice_get (units txn.body) unit ≡ Some body
      → unit_path schema txn body choices ≡ Leads end → end.left ≡ [] → HasTemplate schema groups number unit choices end.symbols

-- instances of a transaction that are shaped
pub record AreShaped (schema : List Declaration) (txns : List Transaction) (number : ℕ) (trace : List Instance) : Type 0 where
  pub txn : Transaction
  pub is : slice_get txns number ≡ Some txn
  pub each : All (Shaped schema txn) trace
