use Rattle.std.proofs.Common.{◌≡◌, map}
use Rattle.sv_app.specs.Schema.{schema_of}
use Rattle.sv_effect.specs.Needs.{once, needs_of}
use Rattle.sv_effect.specs.RunChanges.{effect_of}
use Rattle.sv_interp.proofs.NeedLaws.{needs_after}
use Rattle.sv_interp.proofs.needs.needs.Given as goal

abbrev pub invariant-loop-at : goal.invariant-loop-at
invariant-loop-at l = once l.held (needs_after (schema_of l.tables) l.effects l.at) ≡ needs_of (schema_of l.tables) (map effect_of l.effects)
