-- What the definitions promise: a frugal dictionary is right, and of an application there is one, but for certificates.
use Rattle.std.specs.Prelude.{◌≡◌, ℕ, Bool, List, [], ◌∷◌}
use Rattle.sv_app.specs.Accepted.{AcceptedApp}
use Rattle.sv_app.specs.Schema.{Declaration}
use Rattle.sv_app.specs.Trees.{Transaction}
use Rattle.sv_linear.specs.Codes.{left_of}
use Rattle.sv_simplify.specs.Laws.{SameAtoms}
use Rattle.sv_label.specs.declared.templates.Template.{Template}
use Rattle.sv_label.specs.Groups.{Group}
use Rattle.sv_listing.specs.Frugal.{Frugal}
use Rattle.sv_listing.specs.Right.{Right}

abbrev pub FrugalIsRight : Type 0
FrugalIsRight = (schema : List Declaration) (txns : List Transaction) (groups : List Group) → AcceptedApp schema txns → Frugal schema txns groups → Right schema txns groups

-- the same but for certificates
pub record SameTemplate (t other : Template) : Type 0 where
  pub facts : t.facts ≡ other.facts
  pub symbols : t.symbols ≡ other.symbols
  pub left : SameAtoms (left_of t.left) (left_of other.left)

abbrev pub SameTemplates : List (List Bool × Template) → List (List Bool × Template) → Type 0
SameTemplates [] [] = Unit {0}
SameTemplates [] (o ∷ os) = ⊥
SameTemplates (e ∷ es) [] = ⊥
SameTemplates (e ∷ es) (o ∷ os) = (e.0 ≡ o.0) × SameTemplate e.1 o.1 × SameTemplates es os

pub record SameGroup (g other : Group) : Type 0 where
  pub txn : g.txn ≡ other.txn
  pub unit : g.unit ≡ other.unit
  pub templates : SameTemplates g.templates other.templates

abbrev pub SameGroups : List Group → List Group → Type 0
SameGroups [] [] = Unit {0}
SameGroups [] (o ∷ os) = ⊥
SameGroups (g ∷ gs) [] = ⊥
SameGroups (g ∷ gs) (o ∷ os) = SameGroup g o × SameGroups gs os

abbrev pub FrugalOnce : Type 0
FrugalOnce = (schema : List Declaration) (txns : List Transaction) (groups others : List Group) → Frugal schema txns groups → Frugal schema txns others → SameGroups groups others
