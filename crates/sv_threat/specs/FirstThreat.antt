-- The first threat of a run's changes: by instance, then by place, then by reason.
use Rattle.std.specs.Prelude.{◌≡◌, ◌⊎◌, ℕ, suc, ◌<◌, ◌==◌, List, length, Some, slice_get, take}
use Rattle.std.specs.List.{filter}
use Rattle.sv_app.specs.declared.reasons.Reason.{Reason}
use Rattle.sv_app.specs.declared.reasons.Reason.TheVariants.{Plain, Unique, Child, Parent, Check, List as Listed}
use Rattle.sv_app.specs.Schema.{Declaration}
use Rattle.sv_effect.specs.RunChanges.{Effect}
use Rattle.sv_effect.specs.Threatened.{Threatened}

-- a change's place is its number within its instance, from 1
abbrev pub place_of : List Effect → ℕ → Effect → ℕ
place_of es number e = suc (length (filter (λ other. other.instance == e.instance) (take number es)))

-- the order of the kinds of reasons, and within one kind of the invariants
abbrev pub rank : Reason → ℕ
rank Plain = 0
rank (Unique i) = 1
rank (Child i) = 2
rank (Parent i) = 3
rank (Check i) = 4
rank (Listed i) = 5

abbrev pub invariant_in : Reason → ℕ
invariant_in Plain = 0
invariant_in (Unique i) = i
invariant_in (Child i) = i
invariant_in (Parent i) = i
invariant_in (Check i) = i
invariant_in (Listed i) = i

abbrev pub IsBefore : Reason → Reason → Type 0
IsBefore a b = (rank a < rank b) ⊎ ((rank a ≡ rank b) × (invariant_in a < invariant_in b))

-- a change of a run, and a reason that threatens it
pub record Threat (schema : List Declaration) (es : List Effect) : Type 0 where
  pub number : ℕ
  pub e : Effect
  pub reason : Reason
  pub at : slice_get es number ≡ Some e
  pub threatened : Threatened schema e reason

-- changes of one instance stand in the order of their places
abbrev pub IsSooner : {schema : List Declaration} → {es : List Effect} → Threat schema es → Threat schema es → Type 0
IsSooner a b = (a.e.instance < b.e.instance) ⊎ ((a.e.instance ≡ b.e.instance) × ((a.number < b.number) ⊎ ((a.number ≡ b.number) × IsBefore a.reason b.reason)))

abbrev pub IsFirst : {schema : List Declaration} → {es : List Effect} → Threat schema es → Type 0
IsFirst {schema} {es} threat = (other : Threat schema es) → IsSooner other threat → ⊥
