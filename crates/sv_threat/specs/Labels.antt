-- The label of a run's changes: none where there are none, red with the first threat where one of them is threatened, else blue.
use Rattle.std.specs.Prelude.{◌≡◌, ◌≢◌, ℕ, List, []}
use Rattle.sv_app.specs.declared.reasons.Reason.{Reason}
use Rattle.sv_app.specs.Schema.{Declaration}
use Rattle.sv_effect.specs.RunChanges.{Effect}
use Rattle.sv_effect.specs.Threatened.{Unthreatened}
use Rattle.sv_threat.specs.declared.label.Label.{Label}
use Rattle.sv_threat.specs.declared.label.Label.TheVariants.{Nothing, Blue, Red}
use Rattle.sv_threat.specs.FirstThreat.{Threat, IsFirst, place_of}

-- the first threat is at the change of this instance and place, by this reason
pub record IsRed (schema : List Declaration) (es : List Effect) (instance place : ℕ) (reason : Reason) : Type 0 where
  pub threat : Threat schema es
  pub first : IsFirst threat
  pub instance_is : threat.e.instance ≡ instance
  pub place_is : place_of es threat.number threat.e ≡ place
  pub reason_is : threat.reason ≡ reason

abbrev pub IsLabel : List Declaration → List Effect → Label → Type 0
IsLabel schema es Nothing = es ≡ []
IsLabel schema es Blue = (es ≢ []) × Unthreatened schema es
IsLabel schema es (Red instance place reason) = IsRed schema es instance place reason
