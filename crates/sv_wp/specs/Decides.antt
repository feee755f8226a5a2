-- What the atoms of a change say on a tape that gives its forms the values of a concrete change: the first that isn't met names the first reason that threatens it.
use Rattle.std.specs.Prelude.{◌≡◌, ◌↔◌, ◌++◌, ℕ, true, List, ◌∷◌, Some, None}
use Rattle.std.specs.List.{All}
use Rattle.sv_value.specs.declared.values.Val.{Val}
use Rattle.sv_app.specs.declared.reasons.Reason.{Reason}
use Rattle.sv_app.specs.Accepted.{AcceptedSchema}
use Rattle.sv_app.specs.Schema.{Declaration}
use Rattle.sv_effect.specs.Fits.{EffectFits}
use Rattle.sv_effect.specs.RunChanges.{Effect}
use Rattle.sv_effect.specs.Threatened.{Threatened}
use Rattle.sv_linear.specs.Atoms.{Gain, atoms, is_never}
use Rattle.sv_linear.specs.Effects.{SymEffect}
use Rattle.sv_linear.specs.Tests.{Atom}
use Rattle.sv_threat.specs.First.{IsFirstReason}
use Rattle.sv_threat.specs.FirstThreat.{IsBefore}
use Rattle.sv_wp.specs.Gives.{StandsFor, IsMetOn}
use Rattle.sv_wp.specs.Told.{TellsGreatest}

abbrev pub AllMet : List Declaration → List Val → List Atom → Type 0
AllMet schema tape list = All (λ a. IsMetOn schema tape a.test) list

-- no atom that nothing meets has a reason before this one
abbrev pub IsUpTo : Reason → List Atom → Type 0
IsUpTo reason list = All (λ a. is_never a.test ≡ true → IsBefore a.reason reason → ⊥) list

-- the atoms decide by which reasons the change is threatened
pub record Decide (schema : List Declaration) (change : Effect) (tape : List Val) (list : List Atom) : Type 0 where
  pub each : (reason : Reason) → IsUpTo reason list → All (λ a. a.reason ≡ reason → IsMetOn schema tape a.test) list ↔ (Threatened schema change reason → ⊥)
  pub safe : AllMet schema tape list → IsFirstReason schema change None
  pub first : (before after : List Atom) (a : Atom) → list ≡ before ++ a ∷ after → AllMet schema tape before → (IsMetOn schema tape a.test → ⊥)
      → IsFirstReason schema change (Some a.reason)

abbrev pub AtomsDecide : Type 0
AtomsDecide = (schema : List Declaration) (change : Effect) (tape : List Val) (e : SymEffect) (told : Gain) (place : ℕ)
    → AcceptedSchema schema → EffectFits schema change → TellsGreatest schema told → StandsFor tape e change → Decide schema change tape (atoms told schema e place)
