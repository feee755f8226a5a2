-- What the definition promises: a reason that threatens a change on small ranges threatens it.
use Rattle.std.specs.Prelude.{ℕ, List}
use Rattle.sv_app.specs.declared.reasons.Reason.{Reason}
use Rattle.sv_app.specs.Schema.{Declaration}
use Rattle.sv_effect.specs.RunChanges.{Effect}
use Rattle.sv_effect.specs.Threatened.{Threatened}
use Rattle.sv_plain_threats.specs.ThreatenedWithin.{ThreatenedWithin}

abbrev pub WithinIsThreatened : Type 0
WithinIsThreatened = (reach : ℕ) (schema : List Declaration) (e : Effect) (reason : Reason) → ThreatenedWithin reach schema e reason → Threatened schema e reason
