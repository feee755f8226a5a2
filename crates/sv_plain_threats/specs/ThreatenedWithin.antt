-- Which reasons threaten a change on small ranges: for a check, numbers of the row beyond a reach are left out; for another reason nothing is.
use Rattle.std.specs.Prelude.{◌≡◌, ◌⊎◌, ℕ, ℤ, pos, neg_ℤ, ◌≤ℤ◌, List}
use Rattle.sv_app.specs.declared.reasons.Reason.{Reason}
use Rattle.sv_app.specs.declared.reasons.Reason.TheVariants as reasons
use Rattle.sv_app.specs.declared.schemas.Check.{Check}
use Rattle.sv_app.specs.Schema.{Rule, Bound, OneOf, Different, Refers, Declaration}
use Rattle.sv_effect.specs.RunChanges.{Effect}
use Rattle.sv_effect.specs.Threatened.{BreaksRow, BreaksZeros, IsThreat, Threatened}

-- between -reach and reach
pub record IsNear (reach : ℕ) (n : ℤ) : Type 0 where
  pub low : neg_ℤ (pos reach) ≤ℤ n
  pub high : n ≤ℤ pos reach

-- the check is broken on a row whose numbers lie in reach
pub record BreaksNear (reach : ℕ) (table : Declaration) (e : Effect) (check : Check) : Type 0 where
  pub row : BreaksRow table e check
  pub near : (c : ℕ) → IsNear reach (row.numbers c)

abbrev pub ByCheckWithin : ℕ → Effect → ℕ → Declaration → Rule → Type 0
ByCheckWithin reach e table d (Bound check) = (e.place.table ≡ table) × (BreaksNear reach d e check ⊎ BreaksZeros e check)
ByCheckWithin reach e table d (OneOf column texts) = ⊥
ByCheckWithin reach e table d (Different column) = ⊥
ByCheckWithin reach e table d (Refers column parent target) = ⊥

abbrev pub ThreatenedWithin : ℕ → List Declaration → Effect → Reason → Type 0
ThreatenedWithin reach schema e (reasons.Check i) = IsThreat schema i (ByCheckWithin reach e)
ThreatenedWithin reach schema e reasons.Plain = Threatened schema e reasons.Plain
ThreatenedWithin reach schema e (reasons.Unique i) = Threatened schema e (reasons.Unique i)
ThreatenedWithin reach schema e (reasons.Child i) = Threatened schema e (reasons.Child i)
ThreatenedWithin reach schema e (reasons.Parent i) = Threatened schema e (reasons.Parent i)
ThreatenedWithin reach schema e (reasons.List i) = Threatened schema e (reasons.List i)
