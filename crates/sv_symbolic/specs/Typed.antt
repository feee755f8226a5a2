-- The effects of a route name symbols of the right types: integers in forms, and a text where a symbol stands for one.
use Rattle.std.specs.Prelude.{◌≡◌, ℕ, suc, ℤ, Bool, List, All, Some, slice_get}
use Rattle.sv_app.specs.declared.schemas.Ty.{Ty}
use Rattle.sv_app.specs.declared.schemas.Ty.TheVariants as types
use Rattle.sv_app.specs.Accepted.{AcceptedApp}
use Rattle.sv_app.specs.Schema.{Declaration}
use Rattle.sv_app.specs.Trees.{Block, Transaction}
use Rattle.sv_app.specs.Units.{units}
use Rattle.sv_linear.specs.Effects.{SymValue, Number, TextIs, TextSymbol, SymWrite, Delta, Set, SymEffect}
use Rattle.sv_symbolic.specs.Routes.{Leads, draw_unit}
use Rattle.sv_symbolic.specs.Sketches.{Sketch}

-- symbols count from 1, and this one has the type
pub record IsOfType (tys : List Ty) (symbol : ℕ) (ty : Ty) : Type 0 where
  pub number : ℕ
  pub is : symbol ≡ suc number
  pub has : slice_get tys number ≡ Some ty

abbrev pub TermsAreOver : List Ty → List (ℕ × ℤ) → Type 0
TermsAreOver tys terms = All (λ t. IsOfType tys t.0 types.Int) terms

abbrev pub ValueIsOver : List Ty → SymValue → Type 0
ValueIsOver tys (Number f) = TermsAreOver tys f.terms
ValueIsOver tys (TextIs t) = Unit {0}
ValueIsOver tys (TextSymbol s) = IsOfType tys s types.Text

abbrev pub WriteIsOver : List Ty → SymWrite → Type 0
WriteIsOver tys (Delta f) = TermsAreOver tys f.terms
WriteIsOver tys (Set v) = ValueIsOver tys v

abbrev pub WritesAreOver : List Ty → List (ℕ × SymWrite) → Type 0
WritesAreOver tys writes = All (λ w. WriteIsOver tys w.1) writes

abbrev pub EffectsAreOver : List Ty → List SymEffect → Type 0
EffectsAreOver tys effects = All (λ e. WritesAreOver tys e.writes) effects

-- for each unit of a transaction of an accepted application, also on a path that no run takes
abbrev pub SymbolsAreTyped : Type 0
SymbolsAreTyped = (schema : List Declaration) (txns : List Transaction) (number unit : ℕ) (txn : Transaction) (body : Block) (choices : List Bool) (end : Sketch) → AcceptedApp schema txns → slice_get txns number ≡ Some txn
    → slice_get (units txn.body) unit ≡ Some body → draw_unit schema txn body choices ≡ Leads end → EffectsAreOver end.way.symbols end.drawing.effects
