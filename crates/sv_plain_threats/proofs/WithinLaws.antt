-- What threatens on small ranges threatens.
use Rattle.std.proofs.Common.{◌⊎◌, inl, inr, ℕ}
use Rattle.sv_app.specs.declared.reasons.Reason.TheVariants as reasons
use Rattle.sv_app.specs.declared.schemas.Check.{Check}
use Rattle.sv_app.specs.Schema.{Rule, Bound, OneOf, Different, Refers, Declaration}
use Rattle.sv_effect.specs.RunChanges.{Effect}
use Rattle.sv_effect.specs.Threatened.{BreaksRow, BreaksZeros, ByCheck}
use Rattle.sv_plain_threats.specs.Laws.{WithinIsThreatened}
use Rattle.sv_plain_threats.specs.ThreatenedWithin.{BreaksNear, ByCheckWithin}

broken : (reach : ℕ) (table : Declaration) (e : Effect) (check : Check) → BreaksNear reach table e check ⊎ BreaksZeros e check → BreaksRow table e check ⊎ BreaksZeros e check
broken reach table e check (inl near) = inl near.row
broken reach table e check (inr zeros) = inr zeros

by_check : (reach : ℕ) (e : Effect) (table : ℕ) (d : Declaration) (rule : Rule) → ByCheckWithin reach e table d rule → ByCheck e table d rule
by_check reach e table d (Bound check) by = (by.0, broken reach d e check by.1)
by_check reach e table d (OneOf column texts) by = absurd by
by_check reach e table d (Different column) by = absurd by
by_check reach e table d (Refers column parent target) by = absurd by

pub within_is_threatened : WithinIsThreatened
within_is_threatened reach schema e (reasons.Check i) threat = record {
  table = threat.table;
  inv = threat.inv;
  among = threat.among;
  numbered = threat.numbered;
  by = by_check reach e threat.table threat.among.declaration threat.inv.rule threat.by;
}
within_is_threatened reach schema e reasons.Plain threat = threat
within_is_threatened reach schema e (reasons.Unique i) threat = threat
within_is_threatened reach schema e (reasons.Child i) threat = threat
within_is_threatened reach schema e (reasons.Parent i) threat = threat
within_is_threatened reach schema e (reasons.List i) threat = threat
