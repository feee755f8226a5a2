-- The first threat of those that were looked at.
use Rattle.std.specs.Prelude.{◌≡◌, ◌⊎◌, ℕ, ◌<◌, nat_lt, ◌==◌, ◌&&◌, ◌||◌, if◌then◌else◌, Bool, List, Option, Some, None, slice_get}
use Rattle.sv_app.specs.declared.reasons.Reason.{Reason}
use Rattle.sv_app.specs.Schema.{Declaration}
use Rattle.sv_effect.specs.RunChanges.{Effect}
use Rattle.sv_effect.specs.Threatened.{Threatened}
use Rattle.sv_threat.specs.declared.found.Found.{Found}
use Rattle.sv_threat.specs.FirstThreat.{IsBefore}

-- no reason threatens the change, or this is the first
pub record IsReason (schema : List Declaration) (e : Effect) (reason : Reason) : Type 0 where
  pub threatened : Threatened schema e reason
  pub first : (other : Reason) → Threatened schema e other → IsBefore other reason → ⊥

abbrev pub IsFirstReason : List Declaration → Effect → Option Reason → Type 0
IsFirstReason schema e None = (reason : Reason) → Threatened schema e reason → ⊥
IsFirstReason schema e (Some reason) = IsReason schema e reason

-- what was found at the change of this number
pub record IsFound (schema : List Declaration) (place : ℕ) (e : Effect) (found : Found) : Type 0 where
  pub number : found.number ≡ place
  pub instance : found.instance ≡ e.instance
  pub reason : IsReason schema e found.reason

abbrev pub IsFoundAt : List Declaration → ℕ → Effect → Option Found → Type 0
IsFoundAt schema place e None = IsFirstReason schema e None
IsFoundAt schema place e (Some found) = IsFound schema place e found

abbrev pub is_sooner : Found → Found → Bool
is_sooner a b = nat_lt a.instance b.instance || (a.instance == b.instance && nat_lt a.number b.number)

abbrev pub sooner : Option Found → Option Found → Option Found
sooner None found = found
sooner (Some held) None = Some held
sooner (Some held) (Some found) = if is_sooner found held then Some found else Some held

-- a threat at a change stands before the one that was found
abbrev pub StandsBefore : ℕ → Effect → Reason → Found → Type 0
StandsBefore number e reason found =
    (e.instance < found.instance) ⊎ ((e.instance ≡ found.instance) × ((number < found.number) ⊎ ((number ≡ found.number) × IsBefore reason found.reason)))

-- it is one, and none at a change that was looked at stands before it
pub record IsFirstFound (Seen : ℕ → Effect → Type 0) (schema : List Declaration) (es : List Effect) (found : Found) : Type 0 where
  pub e : Effect
  pub at : slice_get es found.number ≡ Some e
  pub seen : Seen found.number e
  pub instance : e.instance ≡ found.instance
  pub threatened : Threatened schema e found.reason
  pub first : (number : ℕ) (other : Effect) (reason : Reason) → Seen number other → slice_get es number ≡ Some other → Threatened schema other reason → StandsBefore number other reason found → ⊥

abbrev pub IsFirstOf : (ℕ → Effect → Type 0) → List Declaration → List Effect → Option Found → Type 0
IsFirstOf Seen schema es None = (number : ℕ) (other : Effect) (reason : Reason) → Seen number other → slice_get es number ≡ Some other → Threatened schema other reason → ⊥
IsFirstOf Seen schema es (Some found) = IsFirstFound Seen schema es found

-- the changes of the tables before this one, and some of its own
pub data IsSeen (table done number : ℕ) (e : Effect) : Type 0 where
  Before : e.place.table < table → IsSeen table done number e
  Within : e.place.table ≡ table → number < done → IsSeen table done number e

abbrev pub AreAll : ℕ → Effect → Type 0
AreAll number e = Unit {0}
